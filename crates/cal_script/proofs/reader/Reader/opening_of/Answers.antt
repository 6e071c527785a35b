use Rattle.std.proofs.Common.{◌≤◌, Ok, sym, ◌∙◌, ap, subst}
use Rattle.std.specs.Prelude.{Result}
use Rattle.cal_line.specs.FirstFault.{◌>>=◌}
use Rattle.cal_value.specs.declared.variant.Variant.{Variant}
use Rattle.cal_script.specs.Reader.{state_of}
use Rattle.cal_script.specs.State.{opening}
use Rattle.cal_script.specs.Steps.{words_behind}
use Rattle.cal_script.specs.declared.kind.ScriptKind.{ScriptKind}
use Rattle.cal_script.proofs.Naming.{opening_falls, opening_goes}
use Rattle.cal_script.proofs.Values.{made_small}
use Rattle.cal_script.proofs.reader.Reader.opening_of.Goals as goal

pub returns-in-Err-clause-said : goal.returns-in-Err-clause-said
returns-in-Err-clause-said c =
    opening_falls (state_of c.args.self.now) (words_behind c.args.rest) c.in-Err.kind c.in-Err.ensures

pub returns-clause-said : goal.returns-clause-said
returns-clause-said c =
    let named = c.in-Ok.naming.named in
    opening_goes (state_of c.args.self.now) (words_behind c.args.rest) (named.place, named.attribute.now) c.in-Ok.naming.rest.now c.in-Ok.ensures
    ∙ ap (λ (said : Result Variant ScriptKind). said >>= (λ value. Ok (opening named.place named.attribute.now value))) c.in_ok-value.ensures.said
    ∙ (λ j. Ok (record {
      attr = named.place;
      process = sym c.has_process_scope.ensures j;
      words = sym c.made_words.ensures j;
      value = c.in_ok-value.value;
    }))

pub returns-clause-small : goal.returns-clause-small
returns-clause-small c =
    subst (λ words. words ≤ 516) (sym c.made_words.ensures) (made_small c.in-Ok.naming.named.attribute.now c.in_ok-value.value c.in_ok-value.ensures.allowed)
