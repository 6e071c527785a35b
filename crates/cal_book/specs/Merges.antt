-- What tables of one shape come to.
use Rattle.std.specs.Prelude.{◌≤◌, ◌^◌, List, [], ◌∷◌, map, sum_by, All}
use Rattle.cal_book.specs.declared.merging.Merging.{Ghosts as Merging}
use Rattle.cal_book.specs.declared.view.Account.{Account}

module _ {T Q : Type 0} (law : Merging T Q) where
  -- the merge of tables of a shape
  abbrev pub merge_of : Q → List T → T
  merge_of q [] = law.empty q
  merge_of q (table ∷ tables) = law.merged table (merge_of q tables)

  -- what threads have given: the merge of each one's parts, merged
  abbrev pub all_given : Q → List (Account T) → T
  all_given q accounts = merge_of q (map (λ account. merge_of q account.given) accounts)

  -- what a thread may give: parts that were made for the shape, of 2^20 snapshots together
  pub record IsAccount (q : Q) (account : Account T) : Type 0 where
    pub made : All (law.made_for q) account.given
    pub few : sum_by law.size account.given ≤ 2 ^ 20
