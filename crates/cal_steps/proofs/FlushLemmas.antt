-- A flush line ends, and its book has what the thread kept.
use Rattle.std.proofs.Common.{◌≡◌, ℕ, suc, ◌<◌, List, [], ◌∷◌, length, get_or, set}
use Rattle.std.proofs.Common.{ap, subst, sym, refl, ◌∙◌, arith, Result, Ok, Err}
use Rattle.std.specs.Prelude.{IfSome, OnErr, Option, Some, None, zip}
use Rattle.std.proofs.lemmas.List.{get_or-set_same, length-map, length-set, set-get_or, set-set}
use Rattle.std.proofs.lemmas.Option.{slice_get_within}
use Rattle.cal_events.specs.Effects.{books_with, handed_over, line_ended, merged_of}
use Rattle.cal_events.specs.Worlds.{Part, ThreadWorld, World, no_thread, thread_in}
use Rattle.cal_script.specs.Valid.{IsPlaced}
use Rattle.cal_script.specs.declared.journal.Placed.{Placed}
use Rattle.cal_script.specs.declared.journal.Reply as replies
use Rattle.cal_script.specs.declared.journal.Reply.TheVariants as reply
use Rattle.cal_script.specs.declared.script.Line as lines
use Rattle.cal_script.specs.declared.script.Line.TheVariants as line
use Rattle.cal_script.specs.declared.script.Script.{Script}
use Rattle.cal_steps.specs.Behind.{IsSameBut}
use Rattle.cal_world.specs.Progress.{Progress}
use Rattle.cal_world.specs.declared.turn.Turn.{Turn}

-- the channel of a merged flush is one of the script's
pub merged-within : (script : Script) (l : lines.Line) (r : replies.Reply) (channel : ℕ)
    → Some channel ≡ merged_of l r → IsPlaced script.attributes script.channels script.values l
    → channel < length script.channels
merged-within script (line.Flush c) reply.Merged channel is placed =
    subst (λ k. k < length script.channels)
    (let same : Some channel ≡ Some c = is in let back : c ≡ channel = cc in back)
    (slice_get_within script.channels c placed.flushed placed.declared)
merged-within script (line.Flush c) reply.Done channel is placed =
    absurd (let no : Some channel ≡ None = is in cc)
merged-within script (line.Flush c) (reply.Mismatch top) channel is placed =
    absurd (let no : Some channel ≡ None = is in cc)
merged-within script (line.Flush c) reply.NotOpen channel is placed =
    absurd (let no : Some channel ≡ None = is in cc)
merged-within script (line.Flush c) reply.TooDeep channel is placed =
    absurd (let no : Some channel ≡ None = is in cc)
merged-within script (line.Flush c) reply.SlotsFull channel is placed =
    absurd (let no : Some channel ≡ None = is in cc)
merged-within script (line.Flush c) (reply.Busy holder) channel is placed =
    absurd (let no : Some channel ≡ None = is in cc)
merged-within script (line.Begin a v) r channel is placed =
    absurd (let no : Some channel ≡ None = is in cc)
merged-within script (line.End a) r channel is placed =
    absurd (let no : Some channel ≡ None = is in cc)
merged-within script (line.Set a v) r channel is placed =
    absurd (let no : Some channel ≡ None = is in cc)
merged-within script line.Snapshot r channel is placed =
    absurd (let no : Some channel ≡ None = is in cc)
merged-within script (line.Tick n) r channel is placed =
    absurd (let no : Some channel ≡ None = is in cc)

-- what holds of the channel of a merged flush, if there is one
pub merged-below : (o : Option ℕ) (n : ℕ) → ((channel : ℕ) → Some channel ≡ o → channel < n)
    → IfSome o (λ channel. channel < n)
merged-below None n all = tt
merged-below (Some channel) n all = all channel refl

zip-long : {A B : Type 0} (xs : List A) (ys : List B) → length ys ≡ length xs
    → length (zip xs ys) ≡ length xs
zip-long [] ys long = refl
zip-long (x ∷ xs) [] long = absurd (omega (arith, long))
zip-long (x ∷ xs) (y ∷ ys) long = ap suc (zip-long xs ys (omega (arith, long)))

-- a line leaves as many channels
pub ended-long : (script : Script) (history : List Placed) (x : Turn) (t : ThreadWorld)
    → length t.channels ≡ length script.channels
    → length (line_ended script history x t).channels ≡ length script.channels
ended-long script history x t long =
    length-map (zip script.channels t.channels) _ ∙ zip-long script.channels t.channels long

-- ---- one thread of a world is changed twice

module _ (w mid : World) (p : Progress) (t : ℕ) (v : ThreadWorld) (below : t < length w.threads)
    (is : mid ≡ record w { progress = p; threads = set w.threads t v }) where
  pub mid-long : length mid.threads ≡ length w.threads
  mid-long = ap (λ (u : World). length u.threads) is ∙ length-set w.threads t v

  pub mid-thread : thread_in mid t ≡ v
  mid-thread = ap (λ (u : World). thread_in u t) is
      ∙ get_or-set_same w.threads t v no_thread below

  pub mid-books : mid.books ≡ w.books
  mid-books = ap (λ (u : World). u.books) is

  pub handed-is : (o : Option ℕ) → record mid {
    threads = set mid.threads t (handed_over o (thread_in mid t));
    books = books_with o t (thread_in mid t) mid.books;
  } ≡ record w {
    progress = p;
    threads = set w.threads t (handed_over o v);
    books = books_with o t v w.books;
  }
  handed-is o =
      (λ j. record (is j) {
        threads = set (is j).threads t (handed_over o (mid-thread j));
        books = books_with o t (mid-thread j) (is j).books;
      })
      ∙ (λ j. record w {
        progress = p;
        threads = set-set w.threads t v (handed_over o v) j;
        books = books_with o t v w.books;
      })

-- ---- what is left of a refusal

pub on-err : {T E P : Type 0} (r : Result T E) → P → OnErr r P
on-err (Ok x) p = tt
on-err (Err y) p = p

module _ (w : World) (t : ℕ) where
  -- nothing has changed
  pub same-but : (new : World) → new ≡ w → IsSameBut t w new
  same-but new is = (
    thread_in w t,
    is ∙ sym (λ j. record w { threads = set-get_or w.threads t no_thread j }),
  )

  -- a thread is changed twice
  pub but-again : (mid new : World) → IsSameBut t w mid → IsSameBut t mid new → IsSameBut t w new
  but-again mid new one two = (
    two.0,
    two.1
        ∙ (λ j. record (one.1 j) { threads = set (one.1 j).threads t two.0 })
        ∙ (λ j. record w { threads = set-set w.threads t one.0 two.0 j }),
  )

  -- a book takes nothing
  pub book-kept : (u : World) → u ≡ w → (c : ℕ) (v : ThreadWorld) (was is : List Part)
      → was ≡ get_or u.books c was → is ≡ was
      → IsSameBut t w (record u { threads = set u.threads t v; books = set u.books c is })
  book-kept u same c v was is there kept = (
    v,
    (λ j. record u { threads = set u.threads t v; books = set u.books c ((kept ∙ there) j) })
        ∙ (λ j. record u { threads = set u.threads t v; books = set-get_or u.books c was j })
        ∙ ap (λ (z : World). record z { threads = set z.threads t v }) same,
  )
