use Rattle.std.proofs.Common.{◌≡◌, ◌∙◌, ◌++◌, [], ◌∷◌, List, length, reverse}
use Rattle.std.proofs.Common.{ap, sym, arith, subst}
use Rattle.std.proofs.lemmas.List.{reverse-append}
use Rattle.cal_channel.specs.Places.{lists_of}
use Rattle.cal_live_run.proofs.LeftTables.{AreLeft, all-emptied, all-gathered, all-left}
use Rattle.cal_live_run.proofs.LeftTables.{channels-there, one-gathered}
use Rattle.cal_live_run.specs.Gathering.{AreGathered}
use Rattle.cal_table.specs.Tables.{TableValue}
use Rattle.cal_live_run.proofs.gathering.gather_tables.Goals as goal

pub loop-table-init : goal.loop-table-init
loop-table-init c = all-left c.args.tables.items (lists_of c.args.channels.now) c.requires
    (lists_of (reverse c.in_ok-alls.alls.items))
    (ap (λ alls. lists_of (reverse alls)) c.in_ok-alls.ensures.items)

pub tables_at-requires : goal.tables_at-requires
tables_at-requires c =
    let len = c.len-place.ensures in
    let ok = c.pop.new.self.ok in
    let at : c.len-place.result ≡ length c.pop.new.self.items = omega (arith, len, ok) in
    record {
      within = channels-there c.args.tables.items (lists_of c.args.channels.now) c.requires
          c.loop-table.tables.items c.pop.new.self.items c.in-Some.table
          (lists_of c.loop-table.channels) (lists_of (reverse c.loop-table.alls.items))
          c.loop-table.invariant c.in-Some.ensures.items c.len-place.result at;
    }

pub loop-table-preserved : goal.loop-table-preserved
loop-table-preserved c =
    let len = c.len-place.ensures in
    let ok = c.pop.new.self.ok in
    let at : c.len-place.result ≡ length c.pop.new.self.items = omega (arith, len, ok) in
    subst (λ (alls : List (List TableValue)). AreLeft c.args.tables.items
    (lists_of c.args.channels.now) c.pop.new.self.items (lists_of c.tables_at.new.channels) alls)
    (sym (ap (λ alls. lists_of (reverse alls)) c.in_ok-push-2.ensures.items
    ∙ ap lists_of (reverse-append c.loop-table.alls.items (c.push.new.self ∷ []))))
    (one-gathered c.args.tables.items (lists_of c.args.channels.now) c.requires
    c.loop-table.tables.items c.pop.new.self.items c.in-Some.table
    (lists_of c.loop-table.channels) (lists_of (reverse c.loop-table.alls.items))
    c.loop-table.invariant c.in-Some.ensures.items c.len-place.result at
    (lists_of c.tables_at.new.channels) c.push.new.self.items c.in_ok-own.ensures.left
    (c.in_ok-push.ensures.items
    ∙ ap (λ (left : List TableValue). left ++ c.in-Some.table ∷ []) c.in_ok-own.ensures.taken))

pub returns-clause-gathered : goal.returns-clause-gathered
returns-clause-gathered c =
    let gone = c.in_default.ensures.cases.0 in
    let items = c.loop-table.tables.ok in
    subst (λ (alls : List (List TableValue)). AreGathered c.args.tables.items
    (lists_of c.args.channels.now) alls)
    (sym (ap lists_of c.reverse.ensures.items))
    (all-gathered c.args.tables.items (lists_of c.args.channels.now) c.loop-table.tables.items
    (lists_of c.loop-table.channels) (lists_of (reverse c.loop-table.alls.items))
    c.loop-table.invariant (omega (arith, gone, items)))

pub returns-clause-left : goal.returns-clause-left
returns-clause-left c =
    let gone = c.in_default.ensures.cases.0 in
    let items = c.loop-table.tables.ok in
    all-emptied c.args.tables.items (lists_of c.args.channels.now) c.loop-table.tables.items
    (lists_of c.loop-table.channels) (lists_of (reverse c.loop-table.alls.items))
    c.loop-table.invariant (omega (arith, gone, items))
