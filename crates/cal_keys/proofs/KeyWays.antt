-- The ways to groups whose keys lie in a tree.
use Rattle.std.proofs.Common.{◌≡◌, ℕ, ◌+◌, ◌<◌, List, [], ◌∷◌, ◌++◌, length, get_or, map, take, sym, ap, ◌∙◌}
use Rattle.std.proofs.lemmas.List.{map-append, take_more}
use Rattle.std.proofs.lemmas.List.Elements.{All-push}
use Rattle.cal_value.specs.declared.attribute.Entry.{Entry}
use Rattle.cal_context.specs.Tree.{Tree, Grows, path_at}
use Rattle.cal_context.specs.declared.numbers.NodeNumber.{NodeNumber}
use Rattle.cal_context.proofs.CallerLemmas.{path_at-Grows, within_paths}
use Rattle.cal_context.proofs.ListLemmas.{map-alike}
use Rattle.cal_keys.specs.Keys.{key_in}
use Rattle.cal_keys.specs.Leading.{AreWays, Leads}
use Rattle.cal_keys.specs.Trails.{trail}
use Rattle.cal_keys.specs.declared.key.GroupKey.{GroupKey}

-- one key more
pub ways-next : (t old new : Tree) (keys : List GroupKey) (i : ℕ) (key : GroupKey) (nodes : List NodeNumber) (n : NodeNumber) (way : List Entry) → Grows old new
    → i < length keys → key ≡ get_or keys i key → AreWays old (map (key_in t) (take i keys)) nodes → way ≡ trail (key_in t key) → Leads new way n
    → AreWays new (map (key_in t) (take (i + 1) keys)) (nodes ++ n ∷ [])
ways-next t old new keys i key nodes n way grows within is ways way_is leads = record {
  within = All-push (λ m. m.0 < length new.paths) nodes n (λ k d l. within_paths grows (get_or nodes k d).0 (ways.within k d l)) leads.within;
  paths =
      map-append (path_at new) nodes (n ∷ [])
      ∙ (λ j. map-alike (path_at new) (path_at old) nodes (λ k d l. path_at-Grows grows (get_or nodes k d) (ways.within k d l)) j ++ leads.is j ∷ [])
      ∙ (λ j. ways.paths j ++ way_is j ∷ [])
      ∙ sym (ap (λ ks. map trail (map (key_in t) ks)) (take_more keys i key within ∙ ap (λ k. take i keys ++ k ∷ []) (sym is))
      ∙ ap (map trail) (map-append (key_in t) (take i keys) (key ∷ []))
      ∙ map-append trail (map (key_in t) (take i keys)) (key_in t key ∷ []));
}
