use Rattle.std.proofs.Common.{FitsSigned, Option, Some, None, rules, subst, sym, ap, ◌∙◌}
use Rattle.std.proofs.lemmas.Int.{to_z-of_z}
use Rattle.cal_parts.proofs.Shown.{shown-whole}
use Rattle.cal_parts.specs.Parts.{Gathered, given, held_by}
use Rattle.cal_parts.specs.Shown.{ComesTo}
use Rattle.cal_parts.proofs.narrow_part.NarrowPart.shown.Goals as goal
use mir.Syntax.{w64}

pub returns : goal.returns
returns c =
    let s = c.self.inside in
    let fits : FitsSigned w64 s.whole = search rules in
    rw (to_z-of_z w64 s.whole fits)
    (subst (λ (o : Option Gathered). ComesTo c.args.kernel o s.whole)
    (ap Some ((λ i. record {
      many = s.many;
      held = held_by s.way
          (record { whole = given (sym c.if-not-self.false i) s.whole; fixed = None });
    }) ∙ c.self.view_is))
    (shown-whole c.args.kernel s.many s.way s.whole
    (sym c.shows_held.ensures ∙ c.if-not-shows_held.false)))
