-- Parts that others are added to where they stand.
use Rattle.std.proofs.Common.{◌≡◌, ℕ, zero, suc, ◌+◌, ◌*◌, ◌<◌, ◌≤◌, List, [], ◌∷◌, ◌++◌, drop, get_or, length, take, refl, sym, ap, ◌∙◌, arith}
use Rattle.std.specs.Prelude.{slice_set}
use Rattle.std.specs.Simd.{first_chunks}
use Rattle.std.proofs.lemmas.List.{length-drop}
use Rattle.cal_agg.specs.declared.num.Num.{Num}
use Rattle.cal_ql.specs.declared.names.KernelName as kernels
use Rattle.cal_parts.specs.PartLists.{put_parts}
use Rattle.cal_parts.specs.Parts.{Gathered, merged_part, merged_parts, part_over}
use Rattle.cal_parts.specs.PartLists.{merged_at, merged_first, merged_from}
use Rattle.cal_parts.proofs.Adding.{merged_more, merged_none}

-- the part that is there is read and written
pub at_set : (ps : List Gathered) (n : ℕ) (own new fresh : Gathered) → n < length ps → own ≡ get_or ps n own
    → new ≡ merged_part own fresh → slice_set ps n new ≡ merged_at ps n fresh
at_set [] n own new fresh short read is = absurd (omega (arith, short))
at_set (p ∷ ps) zero own new fresh short read is = ap (λ q. q ∷ ps) (is ∙ ap (λ o. merged_part o fresh) read)
at_set (p ∷ ps) (suc n) own new fresh short read is = ap (λ qs. p ∷ qs) (at_set ps n own new fresh (omega (arith, short)) read is)

-- numbers that come one after another
pub at_more : (k : kernels.KernelName) (ps : List Gathered) (n : ℕ) (ns ms : List Num)
    → merged_at (merged_at ps n (part_over k ns)) n (part_over k ms) ≡ merged_at ps n (part_over k (ns ++ ms))
at_more k [] n ns ms = refl
at_more k (p ∷ ps) zero ns ms = ap (λ q. q ∷ ps) (merged_more k p ns ms)
at_more k (p ∷ ps) (suc n) ns ms = ap (λ qs. p ∷ qs) (at_more k ps n ns ms)

pub at_none : (k : kernels.KernelName) (ps : List Gathered) (n : ℕ) → merged_at ps n (part_over k []) ≡ ps
at_none k [] n = refl
at_none k (p ∷ ps) zero = ap (λ q. q ∷ ps) (merged_none k p)
at_none k (p ∷ ps) (suc n) = ap (λ qs. p ∷ qs) (at_none k ps n)

-- one place more
first_empty : (fresh : List Gathered) → merged_first [] fresh ≡ []
first_empty [] = refl
first_empty (x ∷ xs) = refl

first_more : (ps fresh : List Gathered) (n : ℕ) (f : Gathered) → n < length fresh → f ≡ get_or fresh n f
    → merged_at (merged_first ps (take n fresh)) n f ≡ merged_first ps (take (suc n) fresh)
first_more ps [] n f short read = absurd (omega (arith, short))
first_more [] (x ∷ xs) n f short read =
    ap (λ ps. merged_at ps n f) (first_empty (take n (x ∷ xs))) ∙ sym (first_empty (take (suc n) (x ∷ xs)))
first_more (p ∷ ps) (x ∷ xs) zero f short read = ap (λ y. merged_part p y ∷ merged_first ps []) read
first_more (p ∷ ps) (x ∷ xs) (suc n) f short read =
    ap (λ qs. merged_part p x ∷ qs) (first_more ps xs n f (omega (arith, short)) read)

more_at : (ps fresh : List Gathered) (from n m : ℕ) (f : Gathered) → m ≡ from + n → n < length fresh → f ≡ get_or fresh n f
    → merged_at (merged_from ps from (take n fresh)) m f ≡ merged_from ps from (take (suc n) fresh)
more_at ps fresh zero n m f e short read =
    let same : m ≡ n = omega (arith, e) in
    ap (λ k. merged_at (merged_first ps (take n fresh)) k f) same ∙ first_more ps fresh n f short read
more_at ps fresh (suc from) n zero f e short read = absurd (omega (arith, e))
more_at [] fresh (suc from) n (suc m) f e short read = refl
more_at (p ∷ ps) fresh (suc from) n (suc m) f e short read =
    ap (λ qs. p ∷ qs) (more_at ps fresh from n m f (omega (arith, e)) short read)

pub from_more : (ps fresh : List Gathered) (from n : ℕ) (f : Gathered) → n < length fresh → f ≡ get_or fresh n f
    → merged_at (merged_from ps from (take n fresh)) (from + n) f ≡ merged_from ps from (take (n + 1) fresh)
from_more ps fresh from n f short read =
    let next : suc n ≡ n + 1 = omega arith in
    more_at ps fresh from n (from + n) f refl short read ∙ ap (λ k. merged_from ps from (take k fresh)) next

-- nothing is added at first
pub from_none : (ps : List Gathered) (from : ℕ) → merged_from ps from [] ≡ ps
from_none ps zero = refl
from_none [] (suc from) = refl
from_none (p ∷ ps) (suc from) = ap (λ qs. p ∷ qs) (from_none ps from)

-- the places of a group, and those behind it
take_first : (w : ℕ) (ps fresh : List Gathered) → length fresh ≡ w → w ≤ length ps
    → take w (merged_first ps fresh) ≡ merged_parts (take w ps) fresh
take_first zero ps [] e l = refl
take_first zero ps (x ∷ xs) e l = absurd (omega (arith, e))
take_first (suc w) ps [] e l = absurd (omega (arith, e))
take_first (suc w) [] (x ∷ xs) e l = absurd (omega (arith, l))
take_first (suc w) (p ∷ ps) (x ∷ xs) e l =
    ap (λ qs. merged_part p x ∷ qs) (take_first w ps xs (omega (arith, e)) (omega (arith, l)))

drop_first : (w : ℕ) (ps fresh : List Gathered) → length fresh ≡ w → drop w (merged_first ps fresh) ≡ drop w ps
drop_first zero ps [] e = refl
drop_first zero ps (x ∷ xs) e = absurd (omega (arith, e))
drop_first (suc w) ps [] e = refl
drop_first (suc w) [] (x ∷ xs) e = refl
drop_first (suc w) (p ∷ ps) (x ∷ xs) e = drop_first w ps xs (omega (arith, e))

take_before : (w m : ℕ) (ps fresh : List Gathered) → w ≤ m → take w (merged_from ps m fresh) ≡ take w ps
take_before zero m ps fresh l = refl
take_before (suc w) zero ps fresh l = absurd (omega (arith, l))
take_before (suc w) (suc m) [] fresh l = refl
take_before (suc w) (suc m) (p ∷ ps) fresh l = ap (λ qs. p ∷ qs) (take_before w m ps fresh (omega (arith, l)))

drop_before : (w m j : ℕ) (ps fresh : List Gathered) → m ≡ w + j → w ≤ length ps
    → drop w (merged_from ps m fresh) ≡ merged_from (drop w ps) j fresh
drop_before zero m j ps fresh e l =
    let same : m ≡ j = omega (arith, e) in
    ap (λ k. merged_from ps k fresh) same
drop_before (suc w) zero j ps fresh e l = absurd (omega (arith, e))
drop_before (suc w) (suc m) j [] fresh e l = absurd (omega (arith, l))
drop_before (suc w) (suc m) j (p ∷ ps) fresh e l = drop_before w m j ps fresh (omega (arith, e)) (omega (arith, l))

one_more : (w k : ℕ) → suc k * w ≡ w + k * w
one_more w k = omega arith

length-dropped : (w n : ℕ) (ps : List Gathered) → length ps ≡ suc n * w → length (drop w ps) ≡ n * w
length-dropped w n ps e = omega (arith, e, one_more w n, length-drop w ps)

-- so a group of a table gets more behind what is kept of it
pub chunk_added : (w n k : ℕ) (ps fresh : List Gathered) → k < n → length ps ≡ n * w → length fresh ≡ w
    → first_chunks w n (merged_from ps (k * w) fresh) ≡ put_parts (first_chunks w n ps) k fresh
chunk_added w zero k ps fresh l e wide = absurd (omega (arith, l))
chunk_added w (suc n) zero ps fresh l e wide =
    let none : 0 * w ≡ 0 = omega arith in
    ap (λ j. first_chunks w (suc n) (merged_from ps j fresh)) none
    ∙ (λ i. take_first w ps fresh wide (omega (arith, e, one_more w n)) i ∷ first_chunks w n (drop_first w ps fresh wide i))
chunk_added w (suc n) (suc k) ps fresh l e wide =
    ap (λ j. first_chunks w (suc n) (merged_from ps j fresh)) (one_more w k)
    ∙ (λ i. take_before w (w + k * w) ps fresh (omega arith) i
    ∷ first_chunks w n (drop_before w (w + k * w) (k * w) ps fresh refl (omega (arith, e, one_more w n)) i))
    ∙ ap (λ cs. take w ps ∷ cs) (chunk_added w n k (drop w ps) fresh (omega (arith, l)) (length-dropped w n ps e) wide)
