-- What a closed book gives: all parts, as one table.
use Rattle.std.proofs.Common.{◌≡◌, ℕ, ◌+◌, Bool, List, [], ◌∷◌, ◌++◌, map}
use Rattle.std.proofs.Common.{refl, sym, ap, ◌∙◌, arith}
use Rattle.std.specs.List.{flat_map, sum_by}
use Rattle.std.proofs.lemmas.List.Concat.{flat_map-append}
use Rattle.std.proofs.lemmas.List.Sums.{sum_by-append, sum_by-cons}
use Rattle.cal_book.specs.declared.view.Account.{Account}
use Rattle.cal_closing.specs.Parts.{all_of}
use Rattle.cal_closing.specs.Seats.{given_by}
use Rattle.cal_table.specs.Rows.{Row, tally}
use Rattle.cal_table.specs.Tables.{Same, TableValue, empty_table, merged_tables}
use Rattle.cal_table.specs.declared.key.TableKey.{TableKey}
use Rattle.cal_table.specs.declared.shape.TableShape.{TableShape}

abbrev rows : TableValue → List Row
rows table = table.rows

abbrev count : TableValue → ℕ
count table = table.snapshots

module _ (q : TableShape) where
  -- the merge of tables, and of what threads have given, as a book has them
  abbrev pub merge_of_tables : List TableValue → TableValue
  merge_of_tables [] = empty_table q
  merge_of_tables (part ∷ parts) = merged_tables part (merge_of_tables parts)

  abbrev pub given_tables : List (Account TableValue) → TableValue
  given_tables accounts = merge_of_tables (map (λ account. merge_of_tables account.given) accounts)

  merge-rows : (parts : List TableValue) → (merge_of_tables parts).rows ≡ flat_map rows parts
  merge-rows [] = refl
  merge-rows (part ∷ parts) = ap (λ (rs : List Row). part.rows ++ rs) (merge-rows parts)

  merge-count : (parts : List TableValue)
      → (merge_of_tables parts).snapshots ≡ sum_by count parts
  merge-count [] = refl
  merge-count (part ∷ parts) = ap (λ (n : ℕ). part.snapshots + n) (merge-count parts)
      ∙ sym (sum_by-cons count part parts)

  given-rows : (accounts : List (Account TableValue))
      → (given_tables accounts).rows ≡ flat_map rows (given_by accounts)
  given-rows [] = refl
  given-rows (account ∷ accounts) =
      both (merge-rows account.given) (given-rows accounts)
      ∙ sym (flat_map-append rows account.given (given_by accounts))
    where
      both : {a b c d : List Row} → a ≡ b → c ≡ d → a ++ c ≡ b ++ d
      both h k = λ i. h i ++ k i

  given-count : (accounts : List (Account TableValue))
      → (given_tables accounts).snapshots ≡ sum_by count (given_by accounts)
  given-count [] = refl
  given-count (account ∷ accounts) =
      let sum = sum_by-append count account.given (given_by accounts) in
      let mine = merge-count account.given in
      let others = given-count accounts in
      omega (arith, sum, mine, others)

  -- what a book of tables is the same as
  pub given-all : (table : TableValue) (accounts : List (Account TableValue)) → table.shape ≡ q
      → Same table (given_tables accounts) → Same table (all_of q (given_by accounts))
  given-all table accounts made same = record {
    shape = made;
    snapshots = same.snapshots ∙ given-count accounts;
    tally = λ (asked : TableKey → Bool). same.tally asked ∙ ap (tally asked) (given-rows accounts);
  }

  -- one table before others of its shape
  pub all-cons : (part : TableValue) (parts : List TableValue) → part.shape ≡ q
      → Same (all_of q (part ∷ parts)) (merged_tables part (all_of q parts))
  all-cons part parts made = record {
    shape = sym made;
    snapshots = sum_by-cons count part parts;
    tally = λ (asked : TableKey → Bool). refl;
  }
