use Rattle.std.proofs.Common.{◌≡◌, ◌≢◌, ◌≤◌, [], Ok, length, sym, ap, ◌∙◌, subst, arith}
use Rattle.std.specs.List.{between}
use Rattle.cal_read.specs.Fields.{each, id_of}
use Rattle.cal_read.specs.Known.{texts_in}
use Rattle.cal_read.specs.Usual.{written_values}
use Rattle.cal_read.proofs.KnownLemmas.{kept_read, kept_some, kept_written}
use Rattle.cal_read.proofs.known.Known.of.Goals as goal

pub invariant_of-result : goal.invariant_of-result
invariant_of-result c =
    let line = c.args.line.now in
    let start = c.args.start in
    let end = c.args.end in
    let ids = c.args.ids.items in
    let within : c.args.start ≤ length c.args.line.now = omega arith in
    let text : c.in_ok-text.text.items ≡ between c.args.start c.args.end c.args.line.now =
    c.in_ok-text.ensures.items_if_clones_equal (λ x y same. same) ∙ ap (λ l. between c.args.start c.args.end l) c.as_bytes.ensures.value in
    record {
      written = subst (λ l. written_values (texts_in l) ≡ l) (sym text) (kept_written line start end ids within c.requires.spelled);
      some = subst (λ l. texts_in l ≢ []) (sym text) (kept_some line start end ids within c.requires.spelled);
      read = subst (λ l. each id_of (texts_in l) ≡ Ok c.args.ids.items) (sym text) (kept_read line start end ids within c.requires.spelled);
    }
