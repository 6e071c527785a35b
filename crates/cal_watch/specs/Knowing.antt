-- What a guard by one condition knows of a context, which stays right while that grows (private).
use Rattle.std.proofs.Common.{Bool, List, length, map, take, sym, ap, ◌∙◌, arith}
use Rattle.std.proofs.lemmas.List.{take-append-le}
use Rattle.cal_context.proofs.ListLemmas.{length-IsFront}
use Rattle.cal_context.specs.Lists.{IsFront}
use Rattle.cal_context.specs.Tree.{Grows, Tree}
use Rattle.cal_ql.specs.declared.query.Cond.{Cond}
use Rattle.cal_watch.specs.Asking.{Keeps, has_name, holds_on}
use Rattle.cal_watch.specs.declared.condition_guard.ConditionGuard.{ConditionGuard}

-- what it keeps of the first attributes and nodes of a context is so
pub record Knows {D : Type 0} (c : Cond) (guard : ConditionGuard D) (t : Tree) : Type 0 where
  pub named : Keeps (has_name c) guard.named.items t.attributes
  pub holding : Keeps (holds_on c) guard.holding.items t.paths

keeps_on : {A : Type 0} (test : A → Bool) (kept : List Bool) (old new : List A) → IsFront old new
    → Keeps test kept old → Keeps test kept new
keeps_on test kept old new front keeps = record {
  few = omega (arith, keeps.few, length-IsFront old new front);
  are = keeps.are
      ∙ ap (map test)
      (sym (ap (take (length kept)) front.1 ∙ take-append-le (length kept) old front.0 keeps.few));
}

pub Knows-Grows : {D : Type 0} (c : Cond) (guard : ConditionGuard D) (old new : Tree)
    → Knows c guard old → Grows old new → Knows c guard new
Knows-Grows c guard old new knows grows = record {
  named = keeps_on (has_name c) guard.named.items old.attributes new.attributes grows.attributes
      knows.named;
  holding = keeps_on (holds_on c) guard.holding.items old.paths new.paths grows.paths knows.holding;
}
