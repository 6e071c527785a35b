use Rattle.std.proofs.Common.{◌≡◌, ℕ, Bool, false, List, length, get_or, replicate}
use Rattle.std.proofs.Common.{sym, ap, ◌∙◌, subst, arith}
use Rattle.std.proofs.lemmas.List.{get_or-replicate}
use Rattle.cal_naming.specs.Keeping.{CanKeep}
use Rattle.cal_naming.proofs.keep.keep_all.Goals as goal

pub keep_threads-requires-clause-can : goal.keep_threads-requires-clause-can
keep_threads-requires-clause-can c =
    let marks = c.in_ok-marks.marks in
    let long : length c.as_mut_slice.result.now ≡ c.args.slots =
    ap length c.as_mut_slice.ensures.value ∙ sym marks.ok.0 ∙ c.in_ok-marks.ensures.len in
    subst (λ (n : ℕ). CanKeep c.args.threads.now c.args.answers.now n) (sym long) c.requires

pub keep_threads-requires-clause-free : goal.keep_threads-requires-clause-free
keep_threads-requires-clause-free c k d less =
    let marks = c.in_ok-marks.marks in
    let long : length c.as_mut_slice.result.now ≡ c.args.slots =
    ap length c.as_mut_slice.ensures.value ∙ sym marks.ok.0 ∙ c.in_ok-marks.ensures.len in
    let items : c.as_mut_slice.result.now ≡ replicate c.args.slots false =
    c.as_mut_slice.ensures.value
    ∙ c.in_ok-marks.ensures.items_if_clones_equal (λ y same. same) in
    ap (λ (ms : List Bool). get_or ms k d) items
    ∙ get_or-replicate c.args.slots k false d (omega (arith, less, long))
