-- There are as many replies as declarations.
use Rattle.std.proofs.Common.{◌≡◌, true, List, [], ◌∷◌, length, refl, arith}
use Rattle.std.specs.Prelude.{sum_by}
use Rattle.std.specs.List.{AllZip}
use Rattle.std.proofs.lemmas.List.Sums.{sum_by-cons}
use Rattle.std.proofs.lemmas.Slice.Zip.{AllZip-long}
use Rattle.cal_declarations.proofs.Counting.{are_few}
use Rattle.cal_declarations.specs.Layout.{fits, line_count}
use Rattle.cal_naming.specs.Naming.{IsAnswered, IsNaming}
use Rattle.cal_naming.specs.declared.reply.NameReply.{NameReply}
use Rattle.cal_value.specs.declared.attribute.Attribute.{Attribute}
use Rattle.cal_call_names.specs.Listing.{AreFew}

same_counts : (kept : List Attribute) (threads : List (List Attribute))
    (replies : List (List NameReply)) → AllZip (AllZip (IsAnswered kept)) threads replies
    → sum_by (λ (r : List NameReply). length r) replies ≡ line_count threads
same_counts kept [] [] answered = refl
same_counts kept [] (r ∷ rs) answered = absurd answered
same_counts kept (lines ∷ threads) [] answered = absurd answered
same_counts kept (lines ∷ threads) (r ∷ rs) answered =
    let one = AllZip-long (IsAnswered kept) lines r answered.0 in
    let rest = same_counts kept threads rs answered.1 in
    let left = sum_by-cons (λ (r : List NameReply). length r) r rs in
    let right = sum_by-cons (λ (ls : List Attribute). length ls) lines threads in
    omega (arith, one, rest, left, right)

-- declarations that pass no limit have few replies
pub few_replies : (threads : List (List Attribute)) (kept : List Attribute)
    (replies : List (List NameReply)) → fits threads ≡ true → IsNaming threads kept replies
    → AreFew replies
few_replies threads kept replies fine naming =
    let few = are_few threads fine in
    omega (arith, same_counts kept threads replies naming.answered, few.lines)
