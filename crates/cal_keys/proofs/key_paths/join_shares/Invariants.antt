use Rattle.std.proofs.Common.{◌<◌, ℕ, [], get_or, take}
use Rattle.std.specs.List.Sorted.{IsNonDecreasingBy}
use Rattle.cal_context.specs.Tree.{Grows}
use Rattle.cal_keys.specs.Shares.{AreShares, IsShareIn}
use Rattle.cal_keys.specs.declared.share.Share.{Share}
use Rattle.cal_keys.proofs.ShareLemmas.{with_said}
use Rattle.cal_keys.proofs.key_paths.join_shares.Given as goal

abbrev pub invariant-loop-share : goal.invariant-loop-share
invariant-loop-share l = record {
  grows : Grows l.fn.own l.own;
  shares : (count : ℕ) → IsNonDecreasingBy (λ (s : Share). s.place) l.shares
      → ((j : ℕ) (d : Share) → j < l.share-index → IsShareIn l.fn.own count (get_or l.shares j d))
      → AreShares l.own count (with_said l.fn.own (λ p. []) (take l.share-index l.shares)) l.joined.items;
}
