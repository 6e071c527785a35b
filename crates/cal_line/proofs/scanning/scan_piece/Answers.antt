use Rattle.std.proofs.Common.{◌≡◌, ◌≢◌, true, false, length, get_or, arith, sym, ◌∙◌, ap, eqb, ◌||◌}
use Rattle.cal_line.proofs.TokenSteps.{tokens_of-lone}
use Rattle.cal_line.proofs.ScanSteps.{Scanned-start, Scanned-itself, Scanned-taken, IsSpan-scanned, tokens_of-scanned, IsCharBoundary-at_mark}
use Rattle.cal_line.proofs.scanning.scan_piece.Goals as goal

pub loop-place-init : goal.loop-place-init
loop-place-init c = Scanned-start c.args.line.now c.args.start c.requires.0

pub returns-then-place-bytes-clause-lone : goal.returns-then-place-bytes-clause-lone
returns-then-place-bytes-clause-lone c =
    let backslash : get_or c.args.line.now c.loop-place.place 0 ≡ 92 = rw c.as_bytes-bytes.ensures.value at c.if-bytes-place-eq92.true in
    tokens_of-lone c.args.line.now c.args.start c.loop-place.place _ c.loop-place.invariant.piece c.loop-place.invariant.order (omega (arith, ap length c.as_bytes-bytes.ensures.value)) backslash

pub loop-place-preserved-then-bytes-place-eq92 : goal.loop-place-preserved-then-bytes-place-eq92
loop-place-preserved-then-bytes-place-eq92 c =
    let backslash : get_or c.args.line.now c.loop-place.place 0 ≡ 92 = rw c.as_bytes-bytes.ensures.value at c.if-bytes-place-eq92.true in
    Scanned-taken c.args.line.now c.args.start c.loop-place.place c.loop-place.has_escape c.loop-place.invariant (omega (arith, ap length c.as_bytes-bytes.ensures.value)) backslash

pub loop-place-preserved : goal.loop-place-preserved
loop-place-preserved c =
    let line = c.args.line.now in
    let plain : get_or line c.loop-place.place 0 ≢ 92 = rw c.as_bytes-bytes.ensures.value at c.if-bytes-place-eq92.false in
    let no_mark : (eqb (get_or line c.loop-place.place 0) 44 || eqb (get_or line c.loop-place.place 0) 61) ≡ false =
    rw c.as_bytes-bytes.ensures.value at (sym c.is_mark.ensures ∙ c.if-not-is_mark.true)
    in
    Scanned-itself line c.args.start c.loop-place.place c.loop-place.has_escape c.loop-place.invariant (omega (arith, ap length c.as_bytes-bytes.ensures.value)) plain no_mark

pub returns-else-not-is_mark-clause-span : goal.returns-else-not-is_mark-clause-span
returns-else-not-is_mark-clause-span c =
    let line = c.args.line.now in
    let mark : (eqb (get_or line c.loop-place.place 0) 44 || eqb (get_or line c.loop-place.place 0) 61) ≡ true =
    rw c.as_bytes-bytes.ensures.value at (sym c.is_mark.ensures ∙ c.if-not-is_mark.false)
    in
    IsSpan-scanned line _ c.loop-place.invariant c.requires (IsCharBoundary-at_mark line c.loop-place.place c.loop-place.invariant.within (λ _. mark))

pub returns-else-not-is_mark-clause-read : goal.returns-else-not-is_mark-clause-read
returns-else-not-is_mark-clause-read c = tokens_of-scanned c.args.line.now _ c.loop-place.invariant

pub returns-after-loop-place-clause-span : goal.returns-after-loop-place-clause-span
returns-after-loop-place-clause-span c =
    IsSpan-scanned c.args.line.now _ c.loop-place.invariant c.requires (IsCharBoundary-at_mark c.args.line.now c.loop-place.place c.loop-place.invariant.within
    (λ inside. absurd (omega (arith, ap length c.as_bytes-bytes.ensures.value))))

pub returns-after-loop-place-clause-read : goal.returns-after-loop-place-clause-read
returns-after-loop-place-clause-read c = tokens_of-scanned c.args.line.now _ c.loop-place.invariant
