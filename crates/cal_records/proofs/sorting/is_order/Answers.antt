use Rattle.std.proofs.Common.{◌≡◌, rules, ℕ, ◌<◌, Bool, subst, sym, arith}
use Rattle.std.proofs.lemmas.Bool.{MatchBool-at_true}
use Rattle.std.proofs.lemmas.Fn.{always_returns_same}
use Rattle.std.specs.List.{All}
use Rattle.std.specs.Ordering.{is_lt}
use Rattle.cal_records.proofs.Ranking.{risen_numbers}
use Rattle.cal_records.proofs.sorting.is_order.Goals as goal
use Rattle.cal_records.specs.Ranks.{numbers_cmp}

pub returns : goal.returns
returns c = λ is.
    let room = c.args.room.now in
    let g = c.args.rows.now in
    let keys = c.args.keys.now in
    let less : ℕ → ℕ → Bool = λ x y. is_lt (numbers_cmp room g keys x y) in
    let rising = c.is_sorted_by.ensures.cases less
    (always_returns_same _ (λ a r. r ≡ less a.0.now a.1.0.now) _ (λ a r q k. search rules)) in
    risen_numbers room g keys c.args.numbers.now (omega (arith, c.count-count.ensures))
    (subst (λ (count : ℕ). All (λ n. n < count) c.args.numbers.now) c.count-count.ensures
    (c.are_below.ensures c.if-not-are_below.false))
    (λ k d l. sym (MatchBool-at_true _ _ is rising k d l))
