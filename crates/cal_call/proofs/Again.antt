-- A journal that was written is read again behind its script, and gives the same run.
use Rattle.std.proofs.Common.{◌≡◌, ℕ, Bool, List, ◌++◌, length, refl, sym, subst, ◌∙◌}
use Rattle.std.specs.Prelude.{Some}
use Rattle.cal_journal.specs.Both.{MeansBoth}
use Rattle.cal_journal.specs.Marks.{printed}
use Rattle.cal_journal.specs.ReadBack.{EndsItsLines, HoldsJournal, IsReadBehind}
use Rattle.cal_records.specs.Records.{records_of}
use Rattle.cal_script.specs.Lines.{lines_of}
use Rattle.cal_script.specs.Reading.{Means}
use Rattle.cal_script.specs.declared.journal.Journal.{Journal}
use Rattle.cal_script.specs.declared.script.Script.{Script}
use Rattle.cal_write.specs.CanonicalText.{canonical_text}
use Rattle.cal_call.specs.Again.{IsSaidAgain}
use Rattle.cal_call.specs.Inputs.{Makes}
use Rattle.cal_call.specs.Runs.{SaysRun}
use Rattle.cal_call.specs.Tasks.{ThreadsTask}
use Rattle.cal_call.specs.declared.words.RunText.TheVariants as run_text
use Rattle.cal_call.proofs.RunFaults.{one_run}
use Rattle.cal_call.proofs.WrittenRows.{lawful_text}

-- what the law of a journal behind its script says
abbrev pub ReadsBehind : Type 0
ReadsBehind = (bytes : List ℕ) (script : Script) (journal : Journal) → Means bytes script
    → EndsItsLines bytes → HoldsJournal journal → IsReadBehind bytes script journal

records_text : Script → Journal → List ℕ
records_text script journal = canonical_text (records_of script journal)

one_meaning : (bytes : List ℕ) (a b : Script) → Means bytes a → Means bytes b → a ≡ b
one_meaning bytes a b m n = cc (m, n)

-- the script and the journal that was written behind it say the run that left it
says_again : ReadsBehind → (bytes written : List ℕ) (real : Bool) (journal : Journal)
    → EndsItsLines bytes
    → (makes : Makes (ThreadsTask run_text.Journal real) bytes written journal)
    → SaysRun (bytes ++ written) makes.0 journal
says_again law bytes written real journal ends makes =
    let text = printed (length (lines_of bytes)) journal in
    record {
      behind = Some text;
      means = subst (λ w. MeansBoth (bytes ++ w) (makes.0, Some text)) (sym makes.2.1)
          (law bytes makes.0 journal makes.1.means ends makes.2.0);
      uses = (lawful_text makes.0 journal (length (lines_of bytes)) makes.1.lawful, refl);
    }

pub said_again : ReadsBehind → (bytes written : List ℕ) (real : Bool) (journal : Journal)
    → EndsItsLines bytes → Makes (ThreadsTask run_text.Journal real) bytes written journal
    → IsSaidAgain bytes written real journal
unfolding records_text
said_again law bytes written real journal ends makes written_text used =
    let says = says_again law bytes written real journal ends makes in (
      λ made.
          let one = one_run (bytes ++ written) makes.0 made.0 journal used says made.1 in
          let text : records_text makes.0 journal ≡ records_text made.0 used =
          (λ i. records_text (one.0 i) (one.1 i)) in
          (sym one.1, (makes.0, makes.1, made.2 ∙ sym text)),
      λ both.
          let same = one_meaning bytes makes.0 both.1.0 makes.1.means both.1.1.means in
          let text : records_text makes.0 used ≡ records_text both.1.0 journal =
          (λ i. records_text (same i) (both.0 i)) in
          (makes.0, rw both.0 says, both.1.2 ∙ sym text),
    )
