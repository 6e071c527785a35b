-- A text that is appended run by run.
use Rattle.std.proofs.Common.{◌≡◌, ℕ, ◌+◌, ◌<◌, ◌≤◌, List, [], ◌∷◌, ◌++◌, length, get_or, drop, refl, sym, ap, ◌∙◌, append_assoc, append-nil, arith}
use Rattle.std.specs.List.{between}
use Rattle.std.specs.Str.{IsUtf8, IsCharBoundary}
use Rattle.std.proofs.lemmas.List.Edits.{between_more, between_none}
use Rattle.std.proofs.lemmas.Slice.{between_to_end}
use Rattle.std.proofs.lemmas.Str.{IsCharBoundary-start}

-- What is appended so far, and the run up to this place behind it, are this text.
pub record Runs (bytes old out : List ℕ) (run place : ℕ) (done : List ℕ) : Type 0 where
  pub text : List ℕ
  pub appended : out ≡ old ++ text
  pub held : text ++ between run place bytes ≡ done
  pub order : run ≤ place
  pub within : place ≤ length bytes
  pub boundary : IsCharBoundary bytes run

pub Runs-start : (bytes old : List ℕ) → IsUtf8 bytes → Runs bytes old old 0 0 []
Runs-start bytes old text = record {
  text = [];
  appended = sym (append-nil old);
  held = between_none bytes 0;
  order = omega arith;
  within = omega arith;
  boundary = IsCharBoundary-start bytes text;
}

-- a byte more goes into the run
pub Runs-more : (bytes old out : List ℕ) (run place : ℕ) (done : List ℕ) → Runs bytes old out run place done → place < length bytes → Runs bytes old out run (place + 1) (done ++ get_or bytes place 0 ∷ [])
Runs-more bytes old out run place done runs within = record {
  text = runs.text;
  appended = runs.appended;
  held = rw (between_more bytes run place 0 runs.order within, ← append_assoc, runs.held) refl;
  order = omega (arith, runs.order);
  within = omega arith;
  boundary = runs.boundary;
}

-- the run is appended, and then this
pub Runs-put : (bytes old out next : List ℕ) (run place next_place : ℕ) (done put : List ℕ) → Runs bytes old out run place done → next ≡ (out ++ between run place bytes) ++ put → next_place ≤ length bytes → IsCharBoundary bytes next_place → Runs bytes old next next_place next_place (done ++ put)
Runs-put bytes old out next run place next_place done put runs is within boundary = record {
  text = done ++ put;
  appended = is
      ∙ ap (λ (front : List ℕ). (front ++ between run place bytes) ++ put) runs.appended
      ∙ ap (λ (front : List ℕ). front ++ put) (append_assoc old runs.text (between run place bytes) ∙ ap (λ (rest : List ℕ). old ++ rest) runs.held)
      ∙ append_assoc old done put;
  held = rw (between_none bytes next_place) (append-nil (done ++ put));
  order = omega arith;
  within = within;
  boundary = boundary;
}

-- the last run
pub Runs-end : (bytes old out new : List ℕ) (run place : ℕ) (done : List ℕ) → Runs bytes old out run place done → length bytes ≤ place → new ≡ out ++ drop run bytes → new ≡ old ++ done
Runs-end bytes old out new run place done runs past is =
    is
    ∙ ap (λ (last : List ℕ). out ++ last) (sym (between_to_end bytes run place past))
    ∙ ap (λ (front : List ℕ). front ++ between run place bytes) runs.appended
    ∙ append_assoc old runs.text (between run place bytes)
    ∙ ap (λ (rest : List ℕ). old ++ rest) runs.held
