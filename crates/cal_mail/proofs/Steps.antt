-- Each step keeps the rule of the channel.
use Rattle.std.proofs.Common.{◌≡◌, ◌≢◌, ℕ, zero, suc, Bool, true, false, cond, eqb, Option, Some, None, IsSome, All, List, [], ◌∷◌, ◌++◌, length, get_or, set, sym, refl, ap, ◌∙◌, subst, inl, inr, ⊎_elim, arith, length-set, length-append, eq-eqb, ne_eqb}
use Rattle.std.proofs.lemmas.List.{append_assoc, append-nil}
use Rattle.std.proofs.lemmas.List.Elements.{All-head, All-tail}
use mathlib.Core.Option.{some, some-injective}
use mathlib.Core.Logic.{dite}
use native.Mathlib.Decide.{ℕ_discrete}
use lib.ListN.{get_elem?}
use Rattle.atomic_table.proofs.Lists.{at_set, set_here, set_else}
use Rattle.crossbeam_channel.specs.Fifo.{Pushes, Pops, Forks, Merges, Learns}
use Rattle.cal_mail.specs.declared.mail.Mail.{Mail}
use Rattle.cal_mail.specs.declared.view.View.{View}
use Rattle.cal_mail.specs.Messages.{of}
use Rattle.cal_mail.specs.Passes.{with_sent, posting, getting, cut_off, new_sender, joined, spent, collecting}
use Rattle.cal_mail.specs.Rule.{sent_at, told_by, told, Sits, Accounts, MayFollow, IsLawful, Tells, Kept}
use Rattle.cal_mail.proofs.Places.{at_below, some_at, at_end, at_some, get_or-snoc-nil, get_or-here, get_or-set-here, get_or-set-else, split_last}

module _ {T : Type 0} where
  of-append-by : (b : Bool) (x : Option T) (l m n : List (Option T)) → l ≡ m ++ n → cond b (x ∷ l) l ≡ cond b (x ∷ m) m ++ n
  of-append-by true x l m n e = ap (λ (z : List (Option T)). x ∷ z) e
  of-append-by false x l m n e = e

  -- the messages of a sender among some mails, and then among some more
  pub of-append : (p : ℕ) (xs ys : List (Mail T)) → of p (xs ++ ys) ≡ of p xs ++ of p ys
  of-append p [] ys = refl
  of-append p (m ∷ ms) ys = of-append-by (eqb m.sender p) m.part (of p (ms ++ ys)) (of p ms) (of p ys) (of-append p ms ys)

  -- a mail of the sender comes last
  pub of-more : (xs : List (Mail T)) (m : Mail T) → of m.sender (xs ++ m ∷ []) ≡ of m.sender xs ++ m.part ∷ []
  of-more xs m = of-append m.sender xs (m ∷ []) ∙ ap (λ (b : Bool). of m.sender xs ++ cond b (m.part ∷ []) []) (eq-eqb m.sender m.sender refl)

  -- a mail of another sender comes last
  pub of-other : (p : ℕ) (xs : List (Mail T)) (m : Mail T) → m.sender ≢ p → of p (xs ++ m ∷ []) ≡ of p xs
  of-other p xs m ne = of-append p xs (m ∷ []) ∙ ap (λ (b : Bool). of p xs ++ cond b (m.part ∷ []) []) (ne_eqb m.sender p ne) ∙ append-nil (of p xs)

  -- a mail of the sender lies in the middle
  of-middle : (xs ys : List (Mail T)) (m : Mail T) → of m.sender (xs ++ m ∷ ys) ≡ of m.sender xs ++ m.part ∷ of m.sender ys
  of-middle xs ys m = of-append m.sender xs (m ∷ ys) ∙ ap (λ (b : Bool). of m.sender xs ++ cond b (m.part ∷ of m.sender ys) (of m.sender ys)) (eq-eqb m.sender m.sender refl)

  told-set : (vs : List (View T)) (sents : List (List (Option T))) (t : ℕ) (v w : View T) (b : List (Option T)) → get_elem? vs t ≡ some v → v.live ≡ true → w.live ≡ true → told (set vs t w) (set sents t b) ≡ told vs sents
  told-set [] sents t v w b at live after = refl
  told-set (x ∷ vs) [] zero v w b at live after = refl
  told-set (x ∷ vs) [] (suc t) v w b at live after = refl
  told-set (x ∷ vs) (a ∷ sents) zero v w b at live after =
      let before : x.live ≡ true = ap (λ (y : View T). y.live) (some-injective x v at) ∙ live in
      ap (λ (o : Option (List (Option T))). o ∷ told vs sents) (ap (λ (o : Bool). told_by o b) after ∙ ap (λ (o : Bool). told_by o a) (sym before))
  told-set (x ∷ vs) (a ∷ sents) (suc t) v w b at live after = ap (λ (os : List (Option (List (Option T)))). told_by x.live a ∷ os) (told-set vs sents t v w b at live after)

  told-joined : (vs : List (View T)) (sents : List (List (Option T))) (t : ℕ) (w : View T) (a : List (Option T)) → get_elem? sents t ≡ some a → w.live ≡ false → told (set vs t w) sents ≡ set (told vs sents) t (Some a)
  told-joined [] sents t w a at none = refl
  told-joined (x ∷ vs) [] t w a at none = absurd cc
  told-joined (x ∷ vs) (b ∷ sents) zero w a at none = ap (λ (o : Option (List (Option T))). o ∷ told vs sents) (ap (λ (o : Bool). told_by o b) none ∙ ap Some (some-injective b a at))
  told-joined (x ∷ vs) (b ∷ sents) (suc t) w a at none = ap (λ (os : List (Option (List (Option T)))). told_by x.live b ∷ os) (told-joined vs sents t w a at none)

  told-snoc : (vs : List (View T)) (sents : List (List (Option T))) (w : View T) (b : List (Option T)) → length sents ≡ length vs → told (vs ++ w ∷ []) (sents ++ b ∷ []) ≡ told vs sents ++ told_by w.live b ∷ []
  told-snoc [] [] w b long = refl
  told-snoc [] (a ∷ sents) w b long = absurd (omega arith)
  told-snoc (x ∷ vs) [] w b long = absurd (omega arith)
  told-snoc (x ∷ vs) (a ∷ sents) w b long = ap (λ (os : List (Option (List (Option T)))). told_by x.live a ∷ os) (told-snoc vs sents w b (omega arith))

  length-told : (vs : List (View T)) (sents : List (List (Option T))) → length sents ≡ length vs → length (told vs sents) ≡ length vs
  length-told [] sents long = refl
  length-told (x ∷ vs) [] long = absurd (omega arith)
  length-told (x ∷ vs) (a ∷ sents) long = ap suc (length-told vs sents (omega arith))

  ended-by : (b : Bool) (a : List (Option T)) (os : List (Option (List (Option T)))) (sents : List (List (Option T))) (p : ℕ) → All IsSome (told_by b a ∷ os) → ((q : ℕ) → All IsSome os → sent_at os q ≡ get_or sents q []) → sent_at (told_by b a ∷ os) p ≡ get_or (a ∷ sents) p []
  ended-by true a os sents p all rest = absurd (let none = All-head IsSome None os all in cc)
  ended-by false a os sents zero all rest = refl
  ended-by false a os sents (suc p) all rest = rest p (All-tail IsSome (Some a) os all)

  ended-told : (vs : List (View T)) (sents : List (List (Option T))) → length sents ≡ length vs → All IsSome (told vs sents) → (p : ℕ) → sent_at (told vs sents) p ≡ get_or sents p []
  ended-told [] [] long all p = refl
  ended-told [] (a ∷ sents) long all p = absurd (omega arith)
  ended-told (x ∷ vs) [] long all p = absurd (omega arith)
  ended-told (x ∷ vs) (a ∷ sents) long all p = ended-by x.live a (told vs sents) sents p all (λ q rest. ended-told vs sents (omega arith) rest q)

module _ {T : Type 0} (may_send : List T → T → Type 0) where
  -- one message more, which might follow
  lawful-more : (sent : List (Option T)) (message : Option T) → IsLawful may_send sent → MayFollow may_send sent message → IsLawful may_send (sent ++ message ∷ [])
  lawful-more sent message lawful may before one after e = ⊎_elim
      (λ last. subst (λ (x : Option T). MayFollow may_send before x) (sym last.1) (subst (λ (l : List (Option T)). MayFollow may_send l message) (sym last.0) may))
      (λ front. lawful before one front.0 front.1)
      (split_last before one after sent message e)

  -- a sender's pass, found among the views
  record Found (items : List (Mail T)) (views : List (View T)) (k : Kept may_send items views) (id : ℕ) (v : View T) (sender : ℕ) : Type 0 where
    id_is : id ≡ suc sender
    at : get_elem? k.rest sender ≡ some v
    sent : get_elem? k.sents sender ≡ some v.sent

  find_at : (items : List (Mail T)) (views : List (View T)) (k : Kept may_send items views) (id : ℕ) (v : View T) (sender : ℕ) → get_elem? (k.first ∷ k.rest) id ≡ some v → v.live ≡ true → v.sender ≡ Some sender → Found items views k id v sender
  find_at items views k zero v sender at live own = absurd (let e = sym k.collects ∙ ap (λ (x : View T). x.sender) (some-injective k.first v at) ∙ own in cc)
  find_at items views k (suc t) v sender at live own =
      let long = k.long in
      let below = at_below k.rest v t at in
      let there = some_at k.sents t (omega arith) in
      ⊎_elim (λ none. absurd (cc (none, live)))
      (λ sits. let same : t ≡ sender = (let e = sym sits.sender_is ∙ own in cc) in
      record { id_is = ap suc same; at = ap (get_elem? k.rest) (sym same) ∙ at; sent = ap (get_elem? k.sents) (sym same) ∙ there.1 ∙ ap some (sym sits.sent_is) })
      (k.seats t v there.0 at there.1)

  find : (items : List (Mail T)) (views : List (View T)) (k : Kept may_send items views) (id : ℕ) (v : View T) (sender : ℕ) → get_elem? views id ≡ some v → v.live ≡ true → v.sender ≡ Some sender → Found items views k id v sender
  find items views k id v sender at live own = find_at items views k id v sender (ap (λ (vs : List (View T)). get_elem? vs id) (sym k.views_are) ∙ at) live own

  first_at : (items : List (Mail T)) (views : List (View T)) (k : Kept may_send items views) (id : ℕ) (v : View T) → get_elem? (k.first ∷ k.rest) id ≡ some v → v.live ≡ true → v.sender ≡ None → (id ≡ 0) × (k.first ≡ v)
  first_at items views k zero v at live collects = (refl, some-injective k.first v at)
  first_at items views k (suc t) v at live collects =
      let long = k.long in
      let below = at_below k.rest v t at in
      let there = some_at k.sents t (omega arith) in
      ⊎_elim (λ none. absurd (cc (none, live))) (λ sits. absurd (let e = sym sits.sender_is ∙ collects in cc)) (k.seats t v there.0 at there.1)

  find_first : (items : List (Mail T)) (views : List (View T)) (k : Kept may_send items views) (id : ℕ) (v : View T) → get_elem? views id ≡ some v → v.live ≡ true → v.sender ≡ None → (id ≡ 0) × (k.first ≡ v)
  find_first items views k id v at live collects = first_at items views k id v (ap (λ (vs : List (View T)). get_elem? vs id) (sym k.views_are) ∙ at) live collects

  -- what the collector was told of the senders
  told_now : (items : List (Mail T)) (views : List (View T)) (k : Kept may_send items views) (v : View T) → k.first ≡ v → told k.rest k.sents ≡ v.others
  told_now items views k v same = sym k.others_are ∙ ap (λ (u : View T). u.others) same

  count : (items : List (Mail T)) (views : List (View T)) (k : Kept may_send items views) (v : View T) → k.first ≡ v → length v.others ≡ length k.sents
  count items views k v same = ap length (sym (told_now items views k v same)) ∙ length-told k.rest k.sents k.long ∙ sym k.long

  pub pushes : (n id : ℕ) (v : View T) (m : Mail T) → v.live ≡ true → v.sender ≡ Some m.sender → MayFollow may_send v.sent m.part → Pushes (Kept may_send) n id v m (λ w. w ≡ posting m v)
  pushes n id v m live own may items views room k at =
      let t : ℕ = m.sender in
      let f = find items views k id v t at live own in
      let w : View T = posting m v in
      let rest : List (View T) = set k.rest t w in
      let sents : List (List (Option T)) = set k.sents t w.sent in
      let long_rest = length-set k.rest t w in
      let long_sents = length-set k.sents t w.sent in
      let long = k.long in (
        w,
        record {
          first = k.first;
          rest = rest;
          views_are = λ i. set (k.views_are i) (f.id_is i) w;
          sents = sents;
          long = omega arith;
          live = k.live;
          collects = k.collects;
          others_are = k.others_are ∙ sym (told-set k.rest k.sents t v w w.sent f.at live live);
          seats = λ j u s at_u at_s. ⊎_elim
              (λ h. let here : get_elem? sents j ≡ some w.sent = ap (get_elem? sents) h.0 ∙ set_here k.sents t w.sent (at_below k.sents v.sent t f.sent) in
              inr (subst (λ (x : View T). Sits j x s) h.1 record { live = live; sender_is = own ∙ ap Some (sym h.0); sent_is = some-injective w.sent s (sym here ∙ at_s) }))
              (λ h. k.seats j u s h.1 (sym (set_else k.sents t j w.sent h.0) ∙ at_s))
              (at_set k.rest t j w u at_u);
          lawful = λ j s at_s. ⊎_elim
              (λ h. subst (λ (l : List (Option T)). IsLawful may_send l) h.1 (lawful-more v.sent m.part (k.lawful t v.sent f.sent) may))
              (λ h. k.lawful j s h.1)
              (at_set k.sents t j w.sent s at_s);
          sums = λ p. ap (of p) (sym (append_assoc k.first.got items (m ∷ []))) ∙ dite (ℕ_discrete p t)
              (λ e. ap (λ (q : ℕ). of q ((k.first.got ++ items) ++ m ∷ [])) e ∙ of-more (k.first.got ++ items) m
              ∙ ap (λ (l : List (Option T)). l ++ m.part ∷ []) (k.sums t ∙ get_or-here k.sents t v.sent f.sent)
              ∙ sym (get_or-set-here k.sents t v.sent w.sent f.sent) ∙ ap (λ (j : ℕ). get_or sents j []) (sym e))
              (λ ne. of-other p (k.first.got ++ items) m (λ e. ne (sym e)) ∙ k.sums p ∙ sym (get_or-set-else k.sents t p w.sent [] ne));
        },
        refl,
      )

  -- what the collector learns of a mail that it receives
  tells : (id : ℕ) (v : View T) (m : Mail T) (items : List (Mail T)) (views : List (View T)) → Kept may_send (m ∷ items) views → get_elem? views id ≡ some v → v.live ≡ true → v.sender ≡ None → Tells may_send v m
  tells id v m items views k at live collects =
      let f = find_first (m ∷ items) views k id v at live collects in
      let before : List (Option T) = of m.sender v.got in
      let after : List (Option T) = of m.sender items in
      let sum : get_or k.sents m.sender [] ≡ before ++ m.part ∷ after = sym (k.sums m.sender) ∙ ap (λ (u : View T). of m.sender (u.got ++ m ∷ items)) f.1 ∙ of-middle v.got items m in
      let there = at_some k.sents m.sender before m.part after sum in
      let below = at_below k.sents (before ++ m.part ∷ after) m.sender there in
      let all = count (m ∷ items) views k v f.1 in
      (omega arith, k.lawful m.sender (before ++ m.part ∷ after) there before m.part after refl)

  pub pops : (id : ℕ) (v : View T) → v.live ≡ true → v.sender ≡ None → Pops (Kept may_send) id v (λ m w. (w ≡ getting m v) × Tells may_send v m)
  pops id v live collects m items views k at =
      let f = find_first (m ∷ items) views k id v at live collects in
      let w : View T = getting m v in (
        w,
        record {
          first = w;
          rest = k.rest;
          views_are = λ i. set (k.views_are i) (f.0 i) w;
          sents = k.sents;
          long = k.long;
          live = live;
          collects = collects;
          others_are = ap (λ (u : View T). u.others) (sym f.1) ∙ k.others_are;
          seats = k.seats;
          lawful = k.lawful;
          sums = λ p. ap (of p) (append_assoc v.got (m ∷ []) items ∙ ap (λ (u : View T). u.got ++ m ∷ items) (sym f.1)) ∙ k.sums p;
        },
        (refl, tells id v m items views k at live collects),
      )

  pub forks : (id : ℕ) (v : View T) → v.live ≡ true → v.sender ≡ None → Forks (Kept may_send) id v (cut_off v) (new_sender v)
  forks id v live collects items views k at =
      let f = find_first items views k id v at live collects in
      let new : View T = new_sender v in
      let left : View T = cut_off v in
      let all = count items views k v f.1 in
      let long = k.long in
      let no_mail : List (Option T) = [] in
      let longer = length-append k.sents (no_mail ∷ []) in
      let longer_rest = length-append k.rest (new ∷ []) in
      record {
        first = left;
        rest = k.rest ++ new ∷ [];
        views_are = λ i. set (k.views_are i) (f.0 i) left ++ new ∷ [];
        sents = k.sents ++ no_mail ∷ [];
        long = omega arith;
        live = live;
        collects = collects;
        others_are = ap (λ (os : List (Option (List (Option T)))). os ++ None ∷ []) (sym (told_now items views k v f.1)) ∙ sym (told-snoc k.rest k.sents new no_mail k.long);
        seats = λ p u s at_u at_s. ⊎_elim
            (λ h. ⊎_elim (λ n. k.seats p u s h.0 n.0) (λ n. let below = h.1 in let e = n.1 in absurd (omega arith)) (at_end k.sents no_mail s p at_s))
            (λ h. ⊎_elim (λ n. let below = n.1 in let e = h.1 in absurd (omega arith))
            (λ n. let e : length v.others ≡ p = (let here = h.1 in omega arith) in inr (subst (λ (x : View T). Sits p x s) h.0 record { live = refl; sender_is = ap Some e; sent_is = n.0 })) (at_end k.sents no_mail s p at_s))
            (at_end k.rest new u p at_u);
        lawful = λ p s at_s. ⊎_elim (λ n. k.lawful p s n.0)
            (λ n. subst (λ (l : List (Option T)). IsLawful may_send l) n.0 (λ before message after e. absurd (none_in before message after e)))
            (at_end k.sents no_mail s p at_s);
        sums = λ p. ap (λ (u : View T). of p (u.got ++ items)) (sym f.1) ∙ k.sums p ∙ sym (get_or-snoc-nil k.sents p);
      }
    where
      none_in : (before : List (Option T)) (message : Option T) (after : List (Option T)) → before ++ message ∷ after ≡ [] → ⊥
      none_in [] message after e = cc
      none_in (x ∷ xs) message after e = cc

  pub merges : (id : ℕ) (v : View T) (other : ℕ) (w : View T) → v.live ≡ true → v.sender ≡ None → w.live ≡ true → Merges (Kept may_send) id v other w (joined v w) spent
  merges id v other w live collects live_other items views k at apart there =
      let at_other : get_elem? views other ≡ some w = sym (set_else views id other (joined v w) apart) ∙ there in
      joins other (λ e. apart (e ∙ sym f.0)) (ap (λ (vs : List (View T)). get_elem? vs other) (sym k.views_are) ∙ at_other)
    where
      f : (id ≡ 0) × (k.first ≡ v)
      f = find_first items views k id v at live collects

      joins : (i : ℕ) → i ≢ 0 → get_elem? (k.first ∷ k.rest) i ≡ some w → Kept may_send items (set (set views id (joined v w)) i spent)
      joins zero some_number at_w = absurd (some_number refl)
      joins (suc t) some_number at_w =
          let long = k.long in
          let below = at_below k.rest w t at_w in
          let a = some_at k.sents t (omega arith) in
          let sits : Sits t w a.0 = ⊎_elim (λ none. absurd (cc (none, live_other))) (λ sits. sits) (k.seats t w a.0 at_w a.1) in
          let gone : View T = spent in
          let long_rest = length-set k.rest t gone in
          record {
            first = joined v w;
            rest = set k.rest t gone;
            views_are = λ i. set (set (k.views_are i) (f.0 i) (joined v w)) (suc t) gone;
            sents = k.sents;
            long = omega arith;
            live = live;
            collects = collects;
            others_are = (λ i. with_sent (sym (told_now items views k v f.1) i) (sits.sender_is i) (sits.sent_is i)) ∙ sym (told-joined k.rest k.sents t gone a.0 a.1 refl);
            seats = λ j u s at_u at_s. ⊎_elim (λ h. inl (ap (λ (x : View T). x.live) (sym h.1))) (λ h. k.seats j u s h.1 at_s) (at_set k.rest t j gone u at_u);
            lawful = k.lawful;
            sums = λ p. ap (λ (u : View T). of p (u.got ++ items)) (sym f.1) ∙ k.sums p;
          }

  pub learns : (id : ℕ) (v : View T) → v.live ≡ true → Learns (Kept may_send) id v (Accounts v)
  learns id v live items views k at collects all p =
      let f = find_first items views k id v at live collects in
      let now = told_now items views k v f.1 in
      ap (λ (u : View T). of p (u.got ++ items)) (sym f.1) ∙ k.sums p
      ∙ sym (ended-told k.rest k.sents k.long (subst (λ (os : List (Option (List (Option T)))). All IsSome os) (sym now) all) p)
      ∙ ap (λ (os : List (Option (List (Option T)))). sent_at os p) now

  pub opens : Kept may_send [] (collecting ∷ [])
  opens = record {
    first = collecting;
    rest = [];
    views_are = refl;
    sents = [];
    long = refl;
    live = refl;
    collects = refl;
    others_are = refl;
    seats = λ p v s at_v at_s. absurd cc;
    lawful = λ p s at_s. absurd cc;
    sums = λ p. refl;
  }
