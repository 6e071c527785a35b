use Rattle.std.proofs.Common.{map, arith, rules}
use Rattle.std.proofs.lemmas.List.{length-map}
use Rattle.cal_multi.proofs.Shared.{mapped-each}
use Rattle.cal_multi.specs.declared.share.Share.{Share}
use Rattle.cal_multi.proofs.share.fold_all.Goals as goal

pub returns-clause-bytes : goal.returns-clause-bytes
returns-clause-bytes g c =
    let shares = c.in_ok-shares.shares.items in
    let files = c.args.files.now in
    let len = c.in_ok-shares.ensures.len in
    let ok = c.in_ok-shares.shares.ok in
    let long = length-map files (λ file. file.items) in
    mapped-each (λ (s : Share). s.bytes.now) shares (map (λ file. file.items) files)
    (omega (arith, len, ok, long))
    (λ k d less.
    let each = c.in_ok-shares.ensures.each k d (omega (arith, less, long)) in
    search rules)
