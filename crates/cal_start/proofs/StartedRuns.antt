-- What is made of a script is a run of it.
use Rattle.std.proofs.Common.{◌≡◌, Bool, length, sym, ap, ◌∙◌, subst}
use Rattle.std.specs.declared.random_state.RandomState.{RandomState}
use Rattle.cal_plog.specs.Seats as history
use Rattle.cal_process.specs.declared.common.Common.{Common}
use Rattle.cal_replay.specs.Workers.{IsShared, script_of}
use Rattle.cal_run.specs.Numbers.{AreNumbered}
use Rattle.cal_run.specs.RunAttributes.{AreOfRun}
use Rattle.cal_script.specs.Shapes.{history_shape, tree_shape}
use Rattle.cal_script.specs.declared.script.Script.{Script}
use Rattle.cal_start.specs.Runs.{AreBooks, IsRunOf, shapes_for}
use Rattle.cal_start.specs.declared.run.Run.{Run}
use Rattle.cal_tree.specs.Seats as nodes

module _ (script : Script) (run : Run) (common : Common) (same : run.shared.common ≡ common)
    (script_is : common.script.now ≡ script) where
  here : script_of run.shared ≡ script
  here = ap (λ (c : Common). c.script.now) same ∙ script_is

  pub run-of : (real : Bool) (hashers : RandomState) → IsShared run.shared
      → run.shared.real ≡ real → (nodes.plan_of common.tree).shape ≡ tree_shape script
      → (history.plan_of common.log).shape ≡ history_shape script
      → AreNumbered run.context script run.numbers → AreOfRun script run.context.attributes
      → run.shapes.items ≡ shapes_for hashers run.context.attributes script
      → AreBooks (length script.threads) run.shapes.items run.books.items
      → IsRunOf script real run
  run-of real hashers shared real_is tree log numbered only shapes books = record {
    is = record {
      shared = shared;
      tree = ap (λ (c : Common). (nodes.plan_of c.tree).shape) same ∙ tree
          ∙ ap (λ (s : Script). tree_shape s) (sym here);
      history = ap (λ (c : Common). (history.plan_of c.log).shape) same ∙ log
          ∙ ap (λ (s : Script). history_shape s) (sym here);
      numbered = subst (λ (s : Script). AreNumbered run.context s run.numbers) (sym here)
          numbered;
      only = subst (λ (s : Script). AreOfRun s run.context.attributes) (sym here) only;
      hashers = hashers;
      shapes = shapes
          ∙ ap (λ (s : Script). shapes_for hashers run.context.attributes s) (sym here);
      books = subst
          (λ (s : Script). AreBooks (length s.threads) run.shapes.items run.books.items)
          (sym here) books;
    };
    script_is = here;
    real_is = real_is;
  }
