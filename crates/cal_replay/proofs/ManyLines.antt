-- All lines of a worker, one after another.
use Rattle.std.proofs.Common.{◌≡◌, ℕ, ◌+◌, List, [], ◌∷◌, ◌++◌, Bool, true, false, length, refl}
use Rattle.std.proofs.Common.{sym, ap, ◌∙◌, subst, append_assoc, append-nil}
use Rattle.std.specs.Prelude.{Option, Some, None, option_to_list}
use Rattle.std.specs.List.{cons_option}
use Rattle.std.proofs.lemmas.List.{length_push}
use Rattle.std.proofs.lemmas.List.Elements.{filter_map-append}
use Rattle.cal_base.specs.Told.{Gives}
use Rattle.cal_process.specs.declared.common.Common.{Common}
use Rattle.cal_replay.specs.Readings.{Asked, AskedFor, off_clock, readings_of}
use Rattle.cal_replay.specs.Steps.{StepsOver}
use Rattle.cal_replay.specs.Workers.{IsWorker}
use Rattle.cal_replay.specs.declared.shared.Shared.{Shared}
use Rattle.cal_replay.specs.declared.showing.ShownLine.{ShownLine}
use Rattle.cal_replay.specs.declared.worker.Worker.{Worker}
use Rattle.cal_script.specs.declared.journal.LineNote.{LineNote}
use Rattle.cal_script.specs.declared.journal.Reply as replies
use Rattle.cal_script.specs.declared.journal.ThreadNote.{ThreadNote}
use Rattle.cal_thread.specs.declared.thread.Thread.{Thread}
use Rattle.cal_words.specs.declared.op.OpRec.{OpRec}

-- ---- readings

gives-then : (a b c : Option (List ℕ)) (rs ss : List ℕ) → Gives a b rs → Gives b c ss
    → Gives a c (rs ++ ss)
gives-then None None None rs ss g k = tt
gives-then None None (Some c) rs ss g k = absurd k
gives-then None (Some b) c rs ss g k = absurd g
gives-then (Some a) None None rs ss g k = tt
gives-then (Some a) None (Some c) rs ss g k = absurd k
gives-then (Some a) (Some b) None rs ss g k = tt
gives-then (Some a) (Some b) (Some c) rs ss g k =
    k ∙ ap (λ (xs : List ℕ). xs ++ ss) g ∙ append_assoc a rs ss

gives-none : (a : Option (List ℕ)) → Gives a a []
gives-none None = tt
gives-none (Some a) = sym (append-nil a)

module _ {K : Type 0} (given : K → Option (List ℕ)) where
  pub asked-none : (real : Bool) (a : K) → AskedFor given real a a []
  asked-none true a = gives-none (given a)
  asked-none false a = refl

  pub asked-then : (real : Bool) (a b c : K) (rs : List ℕ) (reading : Option ℕ)
      → AskedFor given real a b rs → Asked given b c (off_clock real reading)
      → AskedFor given real a c (rs ++ option_to_list reading)
  asked-then true a b c rs (Some r) was is =
      gives-then (given a) (given b) (given c) rs (r ∷ []) was is
  asked-then true a b c rs None was is =
      subst (λ (ss : List ℕ). Gives (given a) (given c) ss) (sym (append-nil rs))
      (subst (λ (k : K). Gives (given a) (given k) rs) (sym is) was)
  asked-then false a b c rs reading was is = is ∙ was

one-reading : (r : Option ℕ) → cons_option r [] ≡ option_to_list r
one-reading None = refl
one-reading (Some r) = refl

pub readings-more : (ns : List LineNote) (n : LineNote)
    → readings_of (ns ++ n ∷ []) ≡ readings_of ns ++ option_to_list n.reading
readings-more ns n =
    filter_map-append (λ (m : LineNote). m.reading) ns (n ∷ [])
    ∙ ap (λ (rs : List ℕ). readings_of ns ++ rs) (one-reading n.reading)

-- ---- one step more

module _ {K F : Type 0} (given : K → Option (List ℕ))
    (showing : Common → F → F → Thread → ShownLine → Type 0)
    (flushed : F → F → ℕ → replies.Reply → Type 0) (shared : Shared) (old mid new : Worker)
    (was before is : K) (had has : F)
    (s : StepsOver shared given showing flushed before is had has mid new) where
  pub ran-more : (h : List OpRec) → (ops : List OpRec) × IsWorker shared mid (h ++ ops)
      → (ops : List OpRec) × IsWorker shared new (h ++ ops)
  ran-more h m =
      let r = s.runs (h ++ m.0) m.1 in (
        m.0 ++ r.ops,
        subst (λ (hs : List OpRec). IsWorker shared new hs)
            (append_assoc h m.0 r.ops) r.kept,
      )

  pub one-more : length new.note.lines ≡ length mid.note.lines + 1
  one-more = ap (λ (n : ThreadNote). length n.lines) s.noted ∙ length_push mid.note.lines s.note

  pub readings-then : (added : List LineNote) × (mid.note.lines ≡ old.note.lines ++ added)
      × AskedFor given shared.real was before (readings_of added)
      → (added : List LineNote) × (new.note.lines ≡ old.note.lines ++ added)
      × AskedFor given shared.real was is (readings_of added)
  readings-then a = (
    a.0 ++ s.note ∷ [],
    (ap (λ (n : ThreadNote). n.lines) s.noted
        ∙ ap (λ (ns : List LineNote). ns ++ s.note ∷ []) a.1
        ∙ append_assoc old.note.lines a.0 (s.note ∷ [])),
    subst (λ (rs : List ℕ). AskedFor given shared.real was is rs)
        (sym (readings-more a.0 s.note))
        (asked-then given shared.real was before is (readings_of a.0) s.note.reading a.2
        s.asked),
  )
