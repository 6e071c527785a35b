use Rattle.std.proofs.Common.{ℕ, List, sym, subst}
use Rattle.std.proofs.lemmas.Result.{on_ok_weaker}
use Rattle.cal_value.specs.Flat.{flat}
use Rattle.cal_rowset.specs.Filling.{Holds}
use Rattle.cal_rowset.specs.Known.{known_entries}
use Rattle.cal_rowset.proofs.Placing.{row_shows}
use Rattle.cal_rowset.proofs.shown_row.ShownRow.fill.Goals as goal

pub returns : goal.returns
returns c =
    on_ok_weaker c.show_path.result
    (λ shows columns is.
    let filled = c.in_ok-fill.ensures in
    let holds = filled.filled is.holds.0 is.holds.1 in
    let known = subst (λ (names : List (List ℕ)). Holds c.fill.new.self (known_entries names (flat c.args.row.now))) (sym filled.names) holds in
    row_shows _ columns c.args.row.now
    (record { holds = (_, holds); counted = is.counted; places = λ k l. rw filled.names (is.places k l); path = is.path })
    shows known)
    c.show_path.ensures
