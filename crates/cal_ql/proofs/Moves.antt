-- Items that move from one list to others.
use Rattle.std.proofs.Common.{Option, Some, None}

-- what was found before, or else what is found now
abbrev pub or_else : {X : Type 0} → Option X → Option X → Option X
or_else (Some x) other = Some x
or_else None other = other
