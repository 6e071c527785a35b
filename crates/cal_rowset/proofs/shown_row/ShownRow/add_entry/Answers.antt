use Rattle.std.proofs.Common.{refl}
use Rattle.std.proofs.lemmas.List.{append-nil}
use Rattle.std.proofs.lemmas.Result.{on_ok_weaker}
use Rattle.cal_context.specs.Tree.{attribute_at}
use Rattle.cal_rowset.specs.Filling.{names}
use Rattle.cal_rowset.proofs.Knowing.{known_at, unknown_none}
use Rattle.cal_rowset.proofs.Rooms.{IsAlike-same}
use Rattle.cal_rowset.proofs.shown_row.ShownRow.add_entry.Goals as goal

pub returns-in-Some-clause-added : goal.returns-in-Some-clause-added
returns-in-Some-clause-added c =
    let all = names c.args.self.now.cells in
    let name = (attribute_at c.args.context.now c.args.attribute).name in
    on_ok_weaker c.add.result
    (λ added. record {
      alike = record { names = c.add.ensures.names; places = refl; attributes = refl; shows_path = refl };
      node = refl;
      depth = refl;
      cells = λ knows before holds.
          let at = c.in-Some.ensures knows in
          rw (known_at all name c.in-Some.place at) (added before _ holds at refl);
      hierarchy = λ shown before shows. rw (append-nil before) shows;
    })
    c.add.ensures.trail

pub returns-in-None-clause-added : goal.returns-in-None-clause-added
returns-in-None-clause-added c =
    let all = names c.args.self.now.cells in
    let name = (attribute_at c.args.context.now c.args.attribute).name in
    record {
      alike = IsAlike-same c.args.self.now;
      node = refl;
      depth = refl;
      cells = λ knows before holds. rw (unknown_none all name (c.in-None.ensures knows), append-nil before) holds;
      hierarchy = λ shown before shows. rw (append-nil before) shows;
    }
