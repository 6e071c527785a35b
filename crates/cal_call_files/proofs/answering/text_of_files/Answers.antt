use Rattle.std.proofs.Common.{◌≡◌, ℕ, Vec, Global, length, map, ap, arith}
use Rattle.std.proofs.lemmas.List.{length-map}
use Rattle.cal_call_files.proofs.SameFiles.{AreFiles-length}
use Rattle.cal_call_files.proofs.answering.text_of_files.Goals as goal

-- there are as many files as names
pub text_of-text-requires-clause-few : goal.text_of-text-requires-clause-few
text_of-text-requires-clause-few g c κs within =
    let files = map (λ (file : Vec ℕ Global). file.items) c.in-Ok.files.items in
    let long : length files ≡ length c.args.names.now =
    AreFiles-length _ c.args.names.now files c.in-Ok.ensures.files.each in
    omega (
      arith,
      long,
      length-map c.in-Ok.files.items (λ (file : Vec ℕ Global). file.items),
      ap length c.as_slice.ensures.value,
      c.requires.few,
    )

-- the cause that reading gave
pub returns-in-Err-clause-caused : goal.returns-in-Err-clause-caused
returns-in-Err-clause-caused g c = λ output.
    c.fault_of.ensures.caused (record { names = c.args.names.now; query = c.args.query.now }) _
    output c.in-Err.ensures.refused
