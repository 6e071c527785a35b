use Rattle.std.proofs.Common.{◌≡◌, [], ◌∷◌, ◌++◌, map, take, sym, ap, ◌∙◌, arith}
use Rattle.std.proofs.lemmas.List.{map-append, map_more}
use Rattle.std.proofs.lemmas.List.Elements.{All-push}
use Rattle.cal_filter.specs.Known.{KnowsAll, sought}
use Rattle.cal_filter.specs.Sought.{any_of}
use Rattle.cal_engine.proofs.snapshot_order.seekers_of.Goals as goal

pub loop-key-preserved : goal.loop-key-preserved
loop-key-preserved c =
    let seeker = c.catch_up.new.self in
    let key = c.key-item.result in
    let sought_is : sought seeker ≡ any_of key.name =
    c.in_ok-catch_up.ensures.same ∙ c.of_any-seeker.ensures.sought ∙ ap any_of c.in_ok-copy.ensures in
    record {
      same =
          ap (map sought) c.in_ok-push.ensures.items
          ∙ map-append sought c.loop-key.seekers.items (seeker ∷ [])
          ∙ (λ i. c.loop-key.invariant.same i ++ sought_is i ∷ [])
          ∙ ap (λ k. map (λ key. any_of key.name) (take c.loop-key.key-index c.args.order.now) ++ any_of k.name ∷ []) c.key-item.is
          ∙ sym (map_more (λ key. any_of key.name) c.args.order.now c.loop-key.key-index key (omega arith));
      knows =
          rw c.in_ok-push.ensures.items
          (All-push (KnowsAll c.args.context.now) c.loop-key.seekers.items seeker c.loop-key.invariant.knows
          (c.in_ok-catch_up.ensures.knows (c.of_any-seeker.ensures.knows c.args.context.now)));
    }
