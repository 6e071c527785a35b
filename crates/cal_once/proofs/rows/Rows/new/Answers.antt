use Rattle.std.proofs.Common.{ℕ, List, [], ◌∙◌, sym, subst}
use Rattle.atomic_table.specs.Table.{opening}
use Rattle.cal_once.specs.Views.{first_seat}
use Rattle.cal_once.specs.Rule.{Kept}
use Rattle.cal_once.specs.declared.view.Plan.{Plan}
use Rattle.cal_once.proofs.Opening.{opens}
use Rattle.cal_once.proofs.rows.Rows.new.Goals as goal

pub of_words-requires : goal.of_words-requires
of_words-requires g c =
    let plan : Plan g.row.S.Denot = record { shape = c.args.shape; sort = c.args.sort } in
    subst (λ (ws : List ℕ). Kept g.S.RecSort plan (opening ws [] (first_seat plan))) (sym (c.as_slice.ensures.value ∙ c.in_ok-words.ensures))
    (opens g.S.RecSort plan c.requires)
