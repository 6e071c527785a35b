-- What an input means that is read line by line, as a script, a journal and a stream are, and where
-- it goes wrong.
use Rattle.std.specs.Prelude.{◌≡◌, ℕ, ◌-◌, List, [], ◌∷◌, take, Result, Ok, Err}

-- what comes of what was made, unless there was a fault
infixl 10 ◌>>=◌
abbrev pub ◌>>=◌ : {A B K : Type 0} → Result A K → (A → Result B K) → Result B K
Ok made >>= next = next made
Err kind >>= next = Err kind

-- A step says what a line makes of what the lines before it made, or what kind of fault it has there.
module _ {S K : Type 0} (step : S → List ℕ → Result S K) where
  -- what lines make one after another, or the kind of the first fault
  abbrev pub after_lines : S → List (List ℕ) → Result S K
  after_lines before [] = Ok before
  after_lines before (line ∷ lines) = do
    next ← step before line
    after_lines next lines

  -- The first fault of lines is at the line, counted from 1, before which they stand and with which
  -- they don't, and has the kind that this line has there. (Giltmoth's rule, for every input.)
  pub record IsFirstFault (start : S) (lines : List (List ℕ)) (line : ℕ) (kind : K) : Type 0 where
    pub before : S
    pub stands : after_lines start (take (line - 1) lines) ≡ Ok before
    pub falls : after_lines start (take line lines) ≡ Err kind
