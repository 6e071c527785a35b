use Rattle.std.proofs.Common.{◌≡◌, ℕ, ◌<◌, List, get_or, subst}
use Rattle.std.specs.Str.{IsUtf8}
use Rattle.cal_names.proofs.record.know_text.Goals as goal

pub returns : goal.returns
returns c =
    let same : c.as_bytes.result.now ≡ c.args.text.now = c.as_bytes.ensures.value in
    record {
      is_utf8 = subst (λ (bs : List ℕ). IsUtf8 bs) same c.as_bytes.ensures.utf8;
      each_byte = subst (λ (bs : List ℕ). (i : ℕ) → get_or bs i 0 < 256) same c.know_bytes.ensures;
      short = c.requires;
    }
