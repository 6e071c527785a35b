use Rattle.std.proofs.Common.{◌≡◌, List, [], ◌∷◌, ◌++◌, drop, length, ap, subst, ◌∙◌, refl, rules}
use Rattle.std.proofs.Math.Seq.{drop-append_seam}
use Rattle.cal_value.specs.declared.record.Rec.{Rec}
use Rattle.cal_context.specs.declared.snapshot.Snapshot.{Snapshot}
use Rattle.cal_query.proofs.Keepings.{full_in, full_means}
use Rattle.cal_query.proofs.joining.hand_on_lent.Goals as goal

pub take-requires : goal.take-requires
take-requires g c =
    let s = c.args.snapshot.now in
    let behind : c.append.new.self.items ≡ s.imms.items ++ c.args.globals.now.items =
    search rules in
    full_in c.args.context.now _ s c.args.globals.now.items refl behind c.requires.row
    c.requires.globals

pub returns-clause-taken : goal.returns-clause-taken
returns-clause-taken g c = λ rs had.
    let t = c.args.context.now in
    let s = c.args.snapshot.now in
    let full : Snapshot = record { nodes = s.nodes; imms = c.append.new.self } in
    let behind : c.append.new.self.items ≡ s.imms.items ++ c.args.globals.now.items =
    search rules in
    let has = λ (rs : List Rec). g.T.Taker.has_taken c.take.new.self t rs in
    subst (λ (r : Rec). has (rs ++ r ∷ []))
    (full_means t full s c.args.globals.now.items refl behind) (c.in_ok-take.ensures.taken rs had)

pub returns-clause-globals : goal.returns-clause-globals
returns-clause-globals g c =
    let s = c.args.snapshot.now in
    let behind : c.append.new.self.items ≡ s.imms.items ++ c.args.globals.now.items =
    search rules in
    let tail : c.in_ok-globals.field-0.items ≡ drop (length s.imms.items) c.append.new.self.items =
    search rules in
    tail ∙ ap (drop (length s.imms.items)) behind
    ∙ drop-append_seam s.imms.items c.args.globals.now.items
