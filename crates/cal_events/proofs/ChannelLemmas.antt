-- What channels and books have of a thread between two events.
use Rattle.std.proofs.Common.{◌≡◌, ℕ, suc, zero, ◌+◌, ◌<◌, ◌≢◌, Bool, true, false, List, [], ◌∷◌}
use Rattle.std.proofs.Common.{◌++◌, length, map, get_or, set, filter, cond, ap, subst, sym, refl}
use Rattle.std.proofs.Common.{◌∙◌, arith, append_assoc, append-nil, ⊎_elim, ◌==◌, ◌⊎◌, inl, inr}
use Rattle.std.specs.Prelude.{Option, Some, None, flat_map, slice_get, unwrap_or, zip}
use Rattle.std.specs.List.{All}
use Rattle.std.proofs.lemmas.Bool.{cases_lt, eq-eqb, ne_eqb}
use Rattle.std.proofs.lemmas.Grind.{flat_map-append}
use Rattle.std.proofs.lemmas.List.{get_or-set_other, get_or-set_same, length-set, set_past}
use Rattle.std.proofs.lemmas.List.Elements.{All-append, All-cons, All-nil, All-set, filter-append}
use Rattle.std.proofs.lemmas.Option.{slice_get_within}
use Rattle.cal_events.proofs.NextLemmas.{IsNextLine}
use Rattle.cal_events.proofs.SightLemmas.{ended_as, held_as}
use Rattle.cal_events.proofs.ThreadLemmas.{done, state_behind}
use Rattle.cal_events.proofs.WalkLemmas.{previous-push, previous_from, taken-push}
use Rattle.cal_events.specs.Effects.{books_with, handed_over}
use Rattle.cal_events.specs.Keeping.{note_of, taken_on}
use Rattle.cal_events.specs.Worlds.{Held, Part, ThreadWorld, given_by, held_by, nothing_held}
use Rattle.cal_run.specs.Lawful.{Lawful}
use Rattle.cal_run.specs.Steps.{at_start, previous_after, taken_in}
use Rattle.cal_script.specs.declared.journal.Journal.{Journal}
use Rattle.cal_script.specs.declared.journal.LineNote.{LineNote}
use Rattle.cal_script.specs.declared.script.Channel.{Channel}
use Rattle.cal_script.specs.declared.script.Line.{Line}
use Rattle.cal_script.specs.declared.script.Script.{Script}
use Rattle.cal_value.specs.declared.record.Rec.{Rec}
use Rattle.cal_world.specs.declared.turn.Turn.{Turn}

-- ---- lists

-- the channels with what they have, one by one
mapped-at : (f : Channel × Held → Held) (cs : List Channel) (hs : List Held) (c : ℕ)
    (channel : Channel) (d : Held) → slice_get cs c ≡ Some channel → c < length hs
    → get_or (map f (zip cs hs)) c d ≡ f (channel, get_or hs c d)
mapped-at f [] hs c channel d is below = absurd (let no : None ≡ Some channel = is in cc)
mapped-at f (b ∷ cs) [] c channel d is below = absurd (omega (arith, below))
mapped-at f (b ∷ cs) (h ∷ hs) zero channel d is below =
    ap (λ (a : Channel). f (a, h)) (let e : Some b ≡ Some channel = is in cc)
mapped-at f (b ∷ cs) (h ∷ hs) (suc c) channel d is below =
    mapped-at f cs hs c channel d is (omega (arith, below))

mapped-long : (f : Channel × Held → Held) (cs : List Channel) (hs : List Held)
    → length hs ≡ length cs → length (map f (zip cs hs)) ≡ length cs
mapped-long f [] hs long = refl
mapped-long f (c ∷ cs) [] long = absurd (omega (arith, long))
mapped-long f (c ∷ cs) (h ∷ hs) long = ap suc (mapped-long f cs hs (omega (arith, long)))

-- ---- books

-- what another thread gave changes nothing, and what a thread gave comes last
pub given-push : (u t : ℕ) (book : List Part) (rs : List Rec)
    → given_by u (book ++ record { thread = t; snapshots = rs } ∷ [])
    ≡ given_by u book ++ cond (t == u) rs []
given-push u t book rs =
    let p : Part = record { thread = t; snapshots = rs } in
    let mine : Part → Bool = λ (q : Part). q.thread == u in
    ap (flat_map (λ (q : Part). q.snapshots)) (filter-append mine book (p ∷ []))
    ∙ flat_map-append (λ (q : Part). q.snapshots) (filter mine book) (filter mine (p ∷ []))
    ∙ ap (λ (qs : List Rec). given_by u book ++ qs) (last (t == u))
  where
    last : (b : Bool) → flat_map (λ (q : Part). q.snapshots)
        (cond b (record { thread = t; snapshots = rs } ∷ []) []) ≡ cond b rs []
    last true = append-nil rs
    last false = refl

module _ (script : Script) (journal : Journal) where
  -- What a channel has of a thread that has done these lines, and its book: all snapshots of them,
  -- and the reading of the last.
  pub record HasTaken (channel : Channel) (t : ℕ) (ls : List (Line × LineNote)) (given : List Rec)
      (h : Held) : Type 0 where
    pub previous : h.previous ≡ previous_from script journal.ops channel at_start
        (unwrap_or (note_of script journal t).start 0) ls
    pub trace : h.trace ≡ taken_on script journal channel t ls
    pub booked : given ++ h.unflushed ≡ taken_on script journal channel t ls

  -- and so of all channels
  pub record HasChannels (books : List (List Part)) (t n : ℕ) (w : ThreadWorld) : Type 0 where
    pub long : length w.channels ≡ length script.channels
    pub each : (c : ℕ) (channel : Channel) → slice_get script.channels c ≡ Some channel
        → HasTaken channel t (done script journal t n) (given_by t (get_or books c []))
        (held_by w c)

  -- a line ends
  module _ (lawful : Lawful script journal) (t n : ℕ) (x : Turn)
      (line : IsNextLine script journal lawful t n x) where
    taken-next : (channel : Channel)
        → taken_on script journal channel t (done script journal t (n + 1))
        ≡ taken_on script journal channel t (done script journal t n)
        ++ taken_in script journal.ops x.line x.note (state_behind script journal t n) channel
        (previous_from script journal.ops channel at_start
        (unwrap_or (note_of script journal t).start 0) (done script journal t n))
    taken-next channel =
        ap (taken_on script journal channel t) line.next
        ∙ taken-push script journal.ops channel at_start
        (unwrap_or (note_of script journal t).start 0) (done script journal t n) (x.line, x.note)

    taken-held : (channel : Channel) (given : List Rec) (h : Held)
        → HasTaken channel t (done script journal t n) given h
        → HasTaken channel t (done script journal t (n + 1)) given
        (held_as script journal.ops x x.note (state_behind script journal t n) (channel, h))
    taken-held channel given h has =
        let start = unwrap_or (note_of script journal t).start 0 in
        let now : List Rec = taken_in script journal.ops x.line x.note
        (state_behind script journal t n) channel h.previous in
        let same : now ≡ taken_in script journal.ops x.line x.note
        (state_behind script journal t n) channel
        (previous_from script journal.ops channel at_start start (done script journal t n)) =
        ap (taken_in script journal.ops x.line x.note (state_behind script journal t n) channel)
        has.previous in
        record {
          previous = ap (previous_after script journal.ops x.line x.note
              (state_behind script journal t n) channel) has.previous
              ∙ sym (ap (previous_from script journal.ops channel at_start start) line.next
              ∙ previous-push script journal.ops channel at_start start (done script journal t n)
              (x.line, x.note));
          trace = (λ j. has.trace j ++ same j) ∙ sym (taken-next channel);
          booked = sym (append_assoc given h.unflushed now)
              ∙ (λ j. has.booked j ++ same j) ∙ sym (taken-next channel);
        }

    pub channels-ended : (books : List (List Part)) (w : ThreadWorld) → HasChannels books t n w
        → HasChannels books t (n + 1)
        (ended_as script journal.ops x x.note (state_behind script journal t n) w)
    channels-ended books w has = record {
      long = mapped-long (held_as script journal.ops x x.note (state_behind script journal t n))
          script.channels w.channels has.long;
      each = λ c channel is.
          let long = has.long in
          let inside : c < length w.channels =
          (let below = slice_get_within script.channels c channel is in
          omega (arith, long, below)) in
          subst (HasTaken channel t (done script journal t (n + 1))
          (given_by t (get_or books c [])))
          (sym (mapped-at
          (held_as script journal.ops x x.note (state_behind script journal t n))
          script.channels w.channels c channel (nothing_held None) is inside))
          (taken-held channel (given_by t (get_or books c [])) (held_by w c)
          (has.each c channel is));
    }

  -- ---- a flush

  -- what the channel's book has of a thread, whose flush it may be
  module _ (t : ℕ) (books : List (List Part)) (w : ThreadWorld) (f : ℕ) where
    abbrev book : List Part
    book = get_or books f [] ++ record { thread = t; snapshots = (held_by w f).unflushed } ∷ []

    same-book : (c : ℕ) → c ≡ f → c < length books
        → get_or (set books f book) c [] ≡ book
    same-book c is below =
        ap (λ k. get_or (set books f book) k []) is
        ∙ get_or-set_same books f book [] (omega (arith, is, below))

    -- nothing is given of another thread
    pub given-other : (u c : ℕ) → t ≢ u → c < length books
        → given_by u (get_or (set books f book) c []) ≡ given_by u (get_or books c [])
    given-other u c other below = by (cases c f)
      where
        cases : (a b : ℕ) → (a ≡ b) ⊎ (a ≢ b)
        cases a b = grind arith

        by : ((c ≡ f) ⊎ (c ≢ f))
            → given_by u (get_or (set books f book) c []) ≡ given_by u (get_or books c [])
        by (inl same) =
            ap (given_by u) (same-book c same below)
            ∙ given-push u t (get_or books f []) (held_by w f).unflushed
            ∙ ap (λ b. given_by u (get_or books f []) ++ cond b (held_by w f).unflushed [])
            (ne_eqb t u other)
            ∙ append-nil (given_by u (get_or books f []))
            ∙ ap (λ k. given_by u (get_or books k [])) (sym same)
        by (inr apart) = ap (given_by u) (get_or-set_other books f c book [] apart)

    -- and the thread's part moves
    pub given-moved : (channel : Channel) (c : ℕ) (ls : List (Line × LineNote)) → c < length books
        → c < length w.channels
        → HasTaken channel t ls (given_by t (get_or books c [])) (held_by w c)
        → HasTaken channel t ls (given_by t (get_or (set books f book) c []))
        (get_or (set w.channels f (record (held_by w f) { unflushed = [] })) c (nothing_held None))
    given-moved channel c ls below inside has = by (cases c f)
      where
        cases : (a b : ℕ) → (a ≡ b) ⊎ (a ≢ b)
        cases a b = grind arith

        emptied : Held
        emptied = record (held_by w f) { unflushed = [] }

        by : ((c ≡ f) ⊎ (c ≢ f))
            → HasTaken channel t ls (given_by t (get_or (set books f book) c []))
            (get_or (set w.channels f emptied) c (nothing_held None))
        by (inl same) =
            let now : get_or (set w.channels f emptied) c (nothing_held None) ≡ emptied =
            ap (λ k. get_or (set w.channels f emptied) k (nothing_held None)) same
            ∙ get_or-set_same w.channels f emptied (nothing_held None)
            (omega (arith, same, inside)) in
            let given : given_by t (get_or (set books f book) c [])
            ≡ given_by t (get_or books f []) ++ (held_by w f).unflushed =
            ap (given_by t) (same-book c same below)
            ∙ given-push t t (get_or books f []) (held_by w f).unflushed
            ∙ ap (λ b. given_by t (get_or books f []) ++ cond b (held_by w f).unflushed [])
            (eq-eqb t t refl) in
            let old : HasTaken channel t ls (given_by t (get_or books f [])) (held_by w f) =
            subst (λ k. HasTaken channel t ls (given_by t (get_or books k [])) (held_by w k))
            same has in
            subst (HasTaken channel t ls (given_by t (get_or (set books f book) c []))) (sym now)
            (record {
              previous = old.previous;
              trace = old.trace;
              booked = append-nil (given_by t (get_or (set books f book) c []))
                  ∙ given ∙ old.booked;
            })
        by (inr apart) =
            subst (λ (given : List Rec). HasTaken channel t ls given
            (get_or (set w.channels f emptied) c (nothing_held None)))
            (sym (ap (given_by t) (get_or-set_other books f c book [] apart)))
            (subst (HasTaken channel t ls (given_by t (get_or books c [])))
            (sym (get_or-set_other w.channels f c emptied (nothing_held None) apart)) has)

  module _ (books : List (List Part)) (many : length books ≡ length script.channels) (t : ℕ)
      (w : ThreadWorld) where
    pub channels-handed : (o : Option ℕ) (n : ℕ) → HasChannels books t n w
        → HasChannels (books_with o t w books) t n (handed_over o w)
    channels-handed None n has = has
    channels-handed (Some f) n has = record {
      long = length-set w.channels f (record (held_by w f) { unflushed = [] }) ∙ has.long;
      each = λ c channel is.
          let below = slice_get_within script.channels c channel is in
          let long = has.long in
          given-moved t books w f channel c (done script journal t n)
          (omega (arith, below, many)) (omega (arith, below, long)) (has.each c channel is);
    }

    pub channels-other : (o : Option ℕ) (u n : ℕ) (v : ThreadWorld) → t ≢ u
        → HasChannels books u n v → HasChannels (books_with o t w books) u n v
    channels-other None u n v other has = has
    channels-other (Some f) u n v other has = record {
      long = has.long;
      each = λ c channel is.
          let below = slice_get_within script.channels c channel is in
          subst (λ (given : List Rec). HasTaken channel u (done script journal u n) given
          (held_by v c))
          (sym (given-other t books w f u c other (omega (arith, below, many))))
          (has.each c channel is);
    }

    pub books-long : (o : Option ℕ) → length (books_with o t w books) ≡ length books
    books-long None = refl
    books-long (Some f) = length-set books f
        (get_or books f [] ++ record { thread = t; snapshots = (held_by w f).unflushed } ∷ [])

    -- each part is of a thread
    pub parts-of : (count : ℕ) (o : Option ℕ) → t < count
        → All (λ book. All (λ (p : Part). p.thread < count) book) books
        → All (λ book. All (λ (p : Part). p.thread < count) book) (books_with o t w books)
    parts-of count None less all = all
    parts-of count (Some f) less all = ⊎_elim
        (λ inside. All-set Fits books f _ (All-append (λ (p : Part). p.thread < count)
        (get_or books f []) (record { thread = t; snapshots = (held_by w f).unflushed } ∷ [])
        (all f [] inside)
        (All-cons (λ (p : Part). p.thread < count) _ [] less
        (All-nil (λ (p : Part). p.thread < count)))) all)
        (λ past. subst (All Fits) (sym (set_past books f _ past)) all)
        (cases_lt f (length books))
      where
        Fits : List Part → Type 0
        Fits book = All (λ (p : Part). p.thread < count) book
