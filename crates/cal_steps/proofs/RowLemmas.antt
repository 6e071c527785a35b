-- The rows of a world, channel by channel and thread by thread.
use Rattle.std.proofs.Common.{◌≡◌, ℕ, suc, zero, ◌+◌, ◌<◌, Bool, true, false, List, [], ◌∷◌, ◌++◌}
use Rattle.std.proofs.Common.{filter, length, take, get_or, ap, refl, ◌∙◌, sym, arith, append_assoc}
use Rattle.std.proofs.Common.{append-nil, cond, if◌then◌else◌, ◌==◌}
use Rattle.std.specs.Prelude.{Some, flat_map, slice_get}
use Rattle.std.specs.List.{enumerate_from}
use Rattle.std.proofs.lemmas.List.{take_more}
use Rattle.std.proofs.lemmas.List.Concat.{flat_map-append}
use Rattle.std.proofs.lemmas.List.Elements.{filter-append}
use Rattle.cal_events.specs.Keeping.{EndsJournal, booked_in, traced_in}
use Rattle.cal_events.specs.Worlds.{Part, World, given_by}
use Rattle.cal_profile.specs.Groups.{channel_query, group_records}
use Rattle.cal_records.specs.Records.{channel_rows, globals_of, records_of}
use Rattle.cal_run.specs.Runs.{snapshots}
use Rattle.cal_script.specs.declared.journal.Journal.{Journal}
use Rattle.cal_script.specs.declared.script.Channel.{Channel}
use Rattle.cal_script.specs.declared.script.Script.{Script}
use Rattle.cal_steps.specs.Rows.{records_in, rows_at}
use Rattle.cal_value.specs.declared.record.Rec.{Rec}

-- what items up to one more give
pub more-items : {A R : Type 0} (f : A → List R) (i : ℕ) (xs : List A) (x : A) → i < length xs
    → x ≡ get_or xs i x → flat_map f (take (i + 1) xs) ≡ flat_map f (take i xs) ++ f x
more-items f i xs x below here =
    ap (flat_map f) (take_more xs i x below ∙ ap (λ y. take i xs ++ y ∷ []) (sym here))
    ∙ flat_map-append f (take i xs) (x ∷ [])
    ∙ ap (λ rs. flat_map f (take i xs) ++ rs) (append-nil (f x))

-- and numbered items
pub more-numbered : {A R : Type 0} (f : ℕ × A → List R) (k i m : ℕ) (xs : List A) (x : A)
    → i < length xs → m ≡ k + i → x ≡ get_or xs i x
    → flat_map f (enumerate_from k (take (i + 1) xs))
    ≡ flat_map f (enumerate_from k (take i xs)) ++ f (m, x)
more-numbered f k i m [] x below e here = absurd (omega (arith, below))
more-numbered f k zero m (y ∷ xs) x below e here =
    let same : k ≡ m = omega (arith, e) in
    append-nil (f (k, y)) ∙ (λ j. f (same j, sym here j))
more-numbered f k (suc i) m (y ∷ xs) x below e here =
    ap (λ n. flat_map f (enumerate_from k (take n (y ∷ xs))))
    (let next : suc i + 1 ≡ suc (i + 1) = omega arith in next)
    ∙ ap (λ rs. f (k, y) ++ rs)
    (more-numbered f (k + 1) i m xs x (omega (arith, below)) (omega (arith, e)) here)
    ∙ sym (append_assoc (f (k, y)) (flat_map f (enumerate_from (k + 1) (take i xs))) (f (m, x)))

-- a book of more parts
pub given-append : (t : ℕ) (ps qs : List Part)
    → given_by t (ps ++ qs) ≡ given_by t ps ++ given_by t qs
given-append t ps qs =
    ap (flat_map (λ (p : Part). p.snapshots))
    (filter-append (λ (p : Part). p.thread == t) ps qs)
    ∙ flat_map-append (λ (p : Part). p.snapshots) (filter (λ (p : Part). p.thread == t) ps)
    (filter (λ (p : Part). p.thread == t) qs)

pub given-more : (t i : ℕ) (ps : List Part) (p : Part) → i < length ps → p ≡ get_or ps i p
    → given_by t (take (i + 1) ps) ≡ given_by t (take i ps) ++ given_by t (p ∷ [])
given-more t i ps p below here =
    ap (given_by t) (take_more ps i p below ∙ ap (λ q. take i ps ++ q ∷ []) (sym here))
    ∙ given-append t (take i ps) (p ∷ [])

-- a part that is of the thread, and one that isn't
pub given-own : (t : ℕ) (p : Part) → (p.thread == t) ≡ true → given_by t (p ∷ []) ≡ p.snapshots
given-own t p is =
    ap (λ (b : Bool). flat_map (λ (q : Part). q.snapshots) (cond b (p ∷ []) [])) is
    ∙ append-nil p.snapshots

pub given-other : (t : ℕ) (p : Part) → (p.thread == t) ≡ false → given_by t (p ∷ []) ≡ []
given-other t p is =
    ap (λ (b : Bool). flat_map (λ (q : Part). q.snapshots) (cond b (p ∷ []) [])) is

-- numbered items that give what they give without their numbers
numbered-same : {A R : Type 0} (f : ℕ × A → List R) (g : A → List R) (k : ℕ) (xs : List A)
    → ((i : ℕ) (x : A) → slice_get xs i ≡ Some x → f (k + i, x) ≡ g x)
    → flat_map f (enumerate_from k xs) ≡ flat_map g xs
numbered-same f g k [] same = refl
numbered-same f g k (x ∷ xs) same =
    let none : k ≡ k + 0 = omega arith in
    let one : f (k, x) ≡ g x = ap (λ m. f (m, x)) none ∙ same 0 x refl in
    let rest = numbered-same f g (k + 1) xs (λ i y at.
    let more : k + 1 + i ≡ k + suc i = omega arith in
    ap (λ m. f (m, y)) more ∙ same (suc i) y at) in
    λ j. one j ++ rest j

module _ (script : Script) (journal : Journal) (w : World) (ends : EndsJournal script journal w)
  where
    rows-whole : (c : ℕ) (channel : Channel) → slice_get script.channels c ≡ Some channel
        → rows_at w (0 + c, channel) ≡ channel_rows script journal channel
    rows-whole c channel at =
        let none : 0 + c ≡ c = omega arith in
        let traced : traced_in w (0 + c) ≡ snapshots script journal channel =
        ap (traced_in w) none ∙ ends.traced c channel at in
        let booked : booked_in w (0 + c) ≡ snapshots script journal channel =
        ap (booked_in w) none ∙ ends.booked c channel at in
        λ j. (if channel.trace then traced j else [])
        ++ (if channel.aggregate
        then group_records (channel_query channel.query) (booked j) else [])

    -- the records of a world behind the whole journal are those of the run
    pub records-whole : records_in script w ≡ records_of script journal
    records-whole = λ j. record {
      rows = numbered-same (rows_at w) (channel_rows script journal) 0 script.channels rows-whole j;
      globals = globals_of script.globals;
    }
