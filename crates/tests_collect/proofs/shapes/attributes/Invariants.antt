use Rattle.std.proofs.Common.{◌≡◌, length}
use Rattle.tests_collect.proofs.Apart.{HavePlaces}
use Rattle.tests_collect.proofs.shapes.attributes.Given as goal

-- each attribute so far has its number as its properties
abbrev pub invariant-loop-number : goal.invariant-loop-number
invariant-loop-number l = (length l.attrs ≡ l.number) × HavePlaces l.attrs
