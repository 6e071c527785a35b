-- A reader at work, step by step.
use Rattle.std.proofs.Common.{◌≡◌, ℕ, Bool, true, false, List, [], ◌∷◌, ◌++◌, Option, Some, None, refl, sym, ap, subst, ◌∙◌, append_assoc, append-nil}
use Rattle.std.specs.Prelude.{is_some, IfNone, Ok}
use Rattle.cal_context.specs.Snapshots.{IsIn, meaning}
use Rattle.cal_context.specs.Tree.{Tree}
use Rattle.cal_value.specs.declared.record.Rec.{Rec}
use Rattle.cal_line.specs.FirstFault.{IsFirstFault}
use Rattle.cal_line.specs.Lines.{lines_of}
use Rattle.cal_read.specs.Cuts.{ended_lines}
use Rattle.cal_read.specs.Reading.{Ends, HasRead, IsReady, IsRefusalOf, TakesBytes, TakesEnd, rows_made}
use Rattle.cal_read.specs.declared.end.StreamEnd.{StreamEnd}
use Rattle.cal_read.specs.Standing.{TakesUpTo}
use Rattle.cal_read.specs.Stream.{IsFault, line_step, no_lines}
use Rattle.cal_query.specs.Ends.{end_of_stream}
use Rattle.cal_query.specs.Streaming.{FallsAt, Fell, HasFinished, HasStreamed, MayBeFed, StandsAt}
use Rattle.cal_query.specs.declared.streaming.BadLine.{BadLine}
use Rattle.cal_query.specs.declared.streaming.Finished.{Finished}
use Rattle.cal_query.specs.declared.streaming.Streaming.{Streaming}
use Rattle.cal_query.proofs.Falling.{falls_on}
use Rattle.cal_query.proofs.Stops.{falls_as_read}

-- what had taken the first rows has taken all of them
takes_up_to : (had has : List Rec → Type 0) (before after : List Rec)
    → TakesUpTo had has before after → had before → has after
takes_up_to had has before after takes taken =
    subst has (sym takes.rows) (takes.taken before taken)

-- what holds where no fault was met
pub about_this : {P : Type 0} (fault : Option BadLine) → is_some fault ≡ false → IfNone fault P → P
about_this None none is = is
about_this (Some fault) none is = absurd cc

pub about_still : {P : Type 0} (fault : Option BadLine) → is_some fault ≡ false → P → IfNone fault P
about_still None none is = is
about_still (Some fault) none is = absurd cc

module _ {T : Type 0} (has_taken : T → Tree → List Rec → Type 0) where
  -- behind a fault nothing is looked at
  pub stays_fallen : (fault : Option BadLine) (s : Streaming T) (front piece : List ℕ)
      → is_some fault ≡ true → StandsAt has_taken fault s front
      → StandsAt has_taken fault s (front ++ piece)
  stays_fallen None s front piece some fell = absurd cc
  stays_fallen (Some fault) s front piece some fell = λ more.
      subst (λ (bytes : List ℕ). IsFault bytes fault.line fault.kind)
      (sym (append_assoc front piece more)) (fell (piece ++ more))

  -- a piece more without a fault
  pub stands_on : (fault : Option BadLine) (old new : Streaming T) (front piece : List ℕ)
      → is_some fault ≡ false
      → ((bytes : List ℕ) → HasRead old.reader old.context bytes
      → HasRead new.reader new.context (bytes ++ piece))
      → ((bytes : List ℕ) → HasRead old.reader old.context bytes
      → TakesBytes (has_taken old.taker old.context) (has_taken new.taker new.context) bytes
      (bytes ++ piece))
      → StandsAt has_taken fault old front → StandsAt has_taken fault new (front ++ piece)
  stands_on None old new front piece none read taken stands =
      (read front stands.0, takes_up_to _ _ _ _ (taken front stands.0) stands.1)
  stands_on (Some fault) old new front piece none read taken stands = absurd cc

  -- a piece more with the first fault
  pub falls_now : (fault : Option BadLine) (old : Streaming T) (bad : BadLine)
      (front piece : List ℕ) → is_some fault ≡ false
      → ((bytes : List ℕ) → HasRead old.reader old.context bytes
      → IsFirstFault line_step no_lines (ended_lines (bytes ++ piece)) bad.line bad.kind)
      → StandsAt has_taken fault old front → Fell bad (front ++ piece)
  falls_now None old bad front piece none faulty stands =
      λ more. falls_on (front ++ piece) more bad.line bad.kind (faulty front stands.0)
  falls_now (Some fault) old bad front piece none faulty stands = absurd cc

module _ {T : Type 0} (has_taken : T → Tree → List Rec → Type 0) where
  -- at the end a fault is that of the bytes
  pub falls_last : (fault : Option BadLine) (s : Streaming T) (bad : BadLine) (bytes : List ℕ)
      → fault ≡ Some bad → StandsAt has_taken fault s bytes → IsFault bytes bad.line bad.kind
  falls_last None s bad bytes is stands = absurd cc
  falls_last (Some fault) s bad bytes is stands =
      let same : fault ≡ bad = cc in
      subst (λ (b : BadLine). IsFault bytes b.line b.kind) same
      (subst (λ (bs : List ℕ). IsFault bs fault.line fault.kind) (append-nil bytes) (stands []))

  -- at the end the reader refuses for the first fault of the bytes
  pub refused_at_end : (fault : Option BadLine) (s : Streaming T) (e : StreamEnd) (bytes : List ℕ)
      → is_some fault ≡ false
      → ((bs : List ℕ) → HasRead s.reader s.context bs → IsRefusalOf (lines_of bs) e)
      → StandsAt has_taken fault s bytes → FallsAt (end_of_stream e) bytes
  refused_at_end None s e bytes none refused stands = falls_as_read e bytes (refused bytes stands.0)
  refused_at_end (Some fault) s e bytes none refused stands = absurd cc

  pub finishes : (fault : Option BadLine) (s : Streaming T) (f : Finished T) (bytes : List ℕ)
      → is_some fault ≡ false → IsIn f.context f.globals
      → ((bs : List ℕ) → HasRead s.reader s.context bs → Ends bs (meaning f.context f.globals))
      → ((bs : List ℕ) → HasRead s.reader s.context bs
      → TakesEnd (has_taken s.taker s.context) (has_taken f.taker f.context) bs)
      → StandsAt has_taken fault s bytes → HasFinished has_taken f bytes
  finishes None s f bytes none within ends taken stands =
      let end = ends bytes stands.0 in
      record {
        stream = end.stream;
        is = end.is;
        rows = subst (λ (rows : List Rec). has_taken f.taker f.context rows) (ap rows_made end.is)
            (takes_up_to _ _ _ _ (taken bytes stands.0) stands.1);
        within = within;
        globals = end.globals_are;
      }
  finishes (Some fault) s f bytes none within ends taken stands = absurd cc
