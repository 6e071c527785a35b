use Rattle.std.proofs.Common.{ap, arith}
use Rattle.cal_once.specs.declared.view.View.{View}
use Rattle.cal_process.proofs.Uses.{uses-later, uses-line, uses-taken}
use Rattle.cal_process.proofs.tree_laws.words_in_tree_law.Goals as goal
use Rattle.cal_words.specs.declared.sort.NodeSort.{NodeSort}

pub returns-clause-start : goal.returns-clause-start
returns-clause-start c = λ common v thread none. omega (arith, none)

pub returns-clause-learned : goal.returns-clause-learned
returns-clause-learned c = λ common v w h thread done learns uses.
    let same = ap (λ (x : View NodeSort). x.used) learns.same in omega (arith, same, uses)

pub returns-clause-taken : goal.returns-clause-taken
returns-clause-taken c = λ common was is h ops thread done adds uses.
    uses-taken common was is h thread done ops adds uses

pub returns-clause-line : goal.returns-clause-line
returns-clause-line c = λ common was is h ops thread done l at adds uses.
    uses-line common was is h thread done ops l at adds uses

pub returns-clause-later : goal.returns-clause-later
returns-clause-later c = λ common v h thread done uses. uses-later common v h thread done uses
