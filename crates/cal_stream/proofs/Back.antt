-- What is read of a stream is all that it can be.
use Rattle.std.proofs.Common.{◌≡◌, ◌<◌, ◌^◌, ◌∙◌, ℕ, List, length, refl, sym, ap, subst, arith}
use Rattle.std.specs.Prelude.{Result, Ok, Err, IfErr, IfOk}
use Rattle.std.specs.List.{All}
use Rattle.cal_line.specs.Lines.{lines_of}
use Rattle.cal_read.specs.Reading.{IsRefusalOf}
use Rattle.cal_read.specs.Stream.{IsFault, IsStreamOf}
use Rattle.cal_read.specs.declared.end.StreamEnd as ends
use Rattle.cal_read.specs.declared.end.StreamEnd.TheVariants as end
use Rattle.cal_read.specs.declared.kind.StreamKind.{StreamKind}
use Rattle.cal_value.specs.declared.record.Records.{Records}
use Rattle.cal_write.specs.CanonicalText.{canonical_text}
use Rattle.cal_stream.specs.Readable.{AreHeld, AreReadable, IsHeldRecord}
use Rattle.cal_stream.proofs.Counted.{counted-nodes}
use Rattle.cal_stream.proofs.ReadsBack.{reads-back}

-- what bytes were read as are the records of which they are a stream
pub only-same : (r : Result Records ends.StreamEnd) (bytes : List ℕ) (rs : Records)
    → ((records others : Records) → IsStreamOf bytes records → IsStreamOf bytes others
    → records ≡ others) → IsStreamOf bytes rs → IfOk r (IsStreamOf bytes)
    → IfOk r (λ read. read ≡ rs)
only-same (Ok read) bytes rs one is read_as = one read rs read_as is
only-same (Err e) bytes rs one is read_as = tt

-- and they have no fault
pub only-memory : (r : Result Records ends.StreamEnd) (bytes : List ℕ)
    → ((line : ℕ) (k : StreamKind) → ¬ IsFault bytes line k)
    → IfErr r (IsRefusalOf (lines_of bytes)) → IfErr r (λ e. e ≡ end.OutOfMemory)
only-memory (Ok read) bytes none refused = tt
only-memory (Err (end.BadLine line k)) bytes none refused = absurd (none line k refused)
only-memory (Err end.OutOfMemory) bytes none refused = refl

-- what is written of readable records is a stream of them, since a text in memory has few nodes
pub written : (rs : Records) (text bytes : List ℕ) → All IsHeldRecord rs.rows
    → IsHeldRecord rs.globals → text ≡ canonical_text rs → length text < 2 ^ 64 → bytes ≡ text
    → AreReadable rs → IsStreamOf bytes rs
written rs text bytes rows globals is short same readable =
    let counted = counted-nodes rs in
    let long = ap length is in
    let held : AreHeld rs = record { rows = rows; globals = globals; ids = omega arith } in
    subst (λ (b : List ℕ). IsStreamOf b rs) (sym (same ∙ is)) (reads-back rs held readable)
