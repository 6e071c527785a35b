use Rattle.std.proofs.Common.{List, sym, subst, ap, ◌∙◌}
use Rattle.std.specs.List.{All}
use Rattle.cal_agg.specs.Numbers.{IsWithin}
use Rattle.cal_context.specs.Snapshots.{IsBelowRoot}
use Rattle.cal_context.specs.declared.numbers.NodeNumber.{NodeNumber}
use Rattle.cal_filter.specs.Named.{HasSmallNumbers}
use Rattle.cal_groups.proofs.RowLemmas.{filled_means, filled_within, key_put}
use Rattle.cal_groups.proofs.rows.fill.Goals as goal
use Rattle.cal_groups.specs.Appended.{Appends, record_of}
use Rattle.cal_profile.specs.TableRows.{row_entries}

pub push_results-requires-clause-count : goal.push_results-requires-clause-count
push_results-requires-clause-count c =
    let row = c.requires.row.2 in
    subst (λ held. IsWithin 40 held.count) (sym row.means.held) row.room.count

pub push_results-requires-clause-nodes : goal.push_results-requires-clause-nodes
push_results-requires-clause-nodes c =
    let nodes = c.requires.row.0 in
    let row = c.requires.row.2 in
    let put = c.in_ok-put_key.ensures in
    subst (All (IsBelowRoot c.args.context.now)) (sym c.deref.ensures.value)
    (key_put nodes c.args.context.now _ row.keyed _ _ row.means (put.nodes ∙ c.requires.row.1)
    put.imms).below

pub push_results-requires-clause-imms : goal.push_results-requires-clause-imms
push_results-requires-clause-imms c =
    let nodes = c.requires.row.0 in
    let row = c.requires.row.2 in
    let put = c.in_ok-put_key.ensures in
    let key = key_put nodes c.args.context.now _ row.keyed _ _ row.means
    (put.nodes ∙ c.requires.row.1) put.imms in
    key.within

pub push_results-requires-clause-small : goal.push_results-requires-clause-small
push_results-requires-clause-small c =
    let nodes = c.requires.row.0 in
    let row = c.requires.row.2 in
    let put = c.in_ok-put_key.ensures in
    let key = key_put nodes c.args.context.now _ row.keyed _ _ row.means
    (put.nodes ∙ c.requires.row.1) put.imms in
    subst HasSmallNumbers
    (sym (ap (λ ns. record_of c.args.context.now ns c.put_key.new.snapshot.imms.items)
    c.deref.ensures.value ∙ key.key)) row.room.numbers

pub returns-clause-within : goal.returns-clause-within
returns-clause-within c =
    let nodes = c.requires.row.0 in
    let row = c.requires.row.2 in
    let put = c.in_ok-put_key.ensures in
    let key = key_put nodes c.args.context.now _ row.keyed _ _ row.means
    (put.nodes ∙ c.requires.row.1) put.imms in
    record {
      nodes = key.below;
      imms = filled_within c.args.context.now c.put_key.new.snapshot.imms.items
          c.push_results.new.imms.items _ key.within c.in_ok-push_results.ensures;
    }

pub returns-clause-means : goal.returns-clause-means
returns-clause-means c = λ nodes keyed is means.
    let t = c.args.context.now in
    let put = c.in_ok-put_key.ensures in
    let numbers = c.put_key.new.snapshot.nodes.items in
    let imms = c.put_key.new.snapshot.imms.items in
    let key = key_put nodes t _ keyed _ _ means (put.nodes ∙ is) put.imms in
    filled_means t c.args.channel.now keyed c.args.held.now numbers imms
    c.push_results.new.imms.items key.key means.held
    (subst (λ (ns : List NodeNumber). Appends t imms c.push_results.new.imms.items
    (row_entries c.args.channel.now
    (record { key = record_of t ns imms; held = c.args.held.now })))
    c.deref.ensures.value c.in_ok-push_results.ensures)
