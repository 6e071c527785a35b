-- What the snapshots of a channel are, among the attributes that are declared.
use Rattle.std.specs.Prelude.{◌≡◌, ℕ, Bool, true, List, [], ◌∷◌, Option, None, Some, Contains}
use Rattle.std.specs.Prelude.{codes, filter, is_some, nat_eq, option_map, ⊤, ◌⊎◌}
use Rattle.std.specs.Cmp.Lexicographic.{pointwise}
use Rattle.std.specs.List.{AllByRecursion, IsDistinct, find}
use Rattle.cal_agg.specs.Results.{sum_of}
use Rattle.cal_parts.specs.Kernels.{contributed}
use Rattle.cal_profile.specs.Groups.{agg_of, channel_query, keys_of}
use Rattle.cal_ql.specs.declared.names.KernelName.TheVariants as kernel
use Rattle.cal_ql.specs.declared.query.Agg.{Agg}
use Rattle.cal_rowset.specs.Texts.{is_same}
use Rattle.cal_script.specs.declared.script.ChannelQuery.{ChannelQuery}
use Rattle.cal_value.specs.Flat.{joined}
use Rattle.cal_value.specs.Props.{is_as_value, is_reference}
use Rattle.cal_value.specs.declared.attribute.Attribute.{Attribute}
use Rattle.cal_value.specs.declared.attribute.Entry.{Entry}
use Rattle.cal_value.specs.declared.props.Props.{Props}
use Rattle.cal_value.specs.declared.record.Rec.{Rec}

-- the properties that are declared under a name
abbrev pub props_of : List Attribute → List ℕ → Option Props
props_of attributes name = option_map (λ a. a.props) (find (λ a. is_same a.name name) attributes)

module _ (attributes : List Attribute) where
  -- an attribute is declared under this name
  abbrev pub IsDeclared : List ℕ → Type 0
  IsDeclared name = is_some (props_of attributes name) ≡ true

  -- an entry in a path is of a reference attribute
  pub record IsInPath (e : Entry) : Type 0 where
    pub declared : props_of attributes e.attr.name ≡ Some e.attr.props
    pub reference : is_reference e.attr.props ≡ true

  -- and an immediate of an as-value attribute
  pub record IsImmediate (e : Entry) : Type 0 where
    pub declared : props_of attributes e.attr.name ≡ Some e.attr.props
    pub value : is_as_value e.attr.props ≡ true

  -- a snapshot of declared attributes
  pub record IsSnapshot (r : Rec) : Type 0 where
    pub paths : AllByRecursion IsInPath (joined r.paths)
    pub imms : AllByRecursion IsImmediate r.imms

  -- Keys are declared; the first may be `path` instead.
  abbrev pub AreKeys : Option (List (List ℕ)) → Type 0
  AreKeys None = ⊤
  AreKeys (Some []) = ⊤
  AreKeys (Some (key ∷ keys)) =
      ((key ≡ codes "path") ⊎ IsDeclared key) × AllByRecursion IsDeclared keys

  -- The names of a channel: no attribute is named `path` or as a result of the channel; keys are as
  -- above; value attributes are declared, and each is named once.
  pub record IsNamed (channel : ChannelQuery) : Type 0 where
    pub results : (agg : Agg) → Contains (channel_query channel).aggs agg
        → props_of attributes agg.name ≡ None
    pub path : props_of attributes (codes "path") ≡ None
    pub keys : AreKeys (keys_of channel)
    pub values : AllByRecursion IsDeclared channel.values
    pub once : IsDistinct (pointwise nat_eq) channel.values

-- The sum of a value attribute over some of the records is absent only where none contributes: it
-- isn't too large.
abbrev pub HasSums : ChannelQuery → List Rec → Type 0
HasSums channel trace = (attr : List ℕ) → Contains channel.values attr → (test : Rec → Bool)
    → sum_of (contributed (agg_of kernel.Sum attr) (filter test trace)) ≡ None
    → contributed (agg_of kernel.Sum attr) (filter test trace) ≡ []

-- What a channel takes in a run: snapshots of declared attributes, under names that go together,
-- whose sums aren't too large.
pub record IsTrace (attributes : List Attribute) (channel : ChannelQuery) (trace : List Rec)
    : Type 0 where
  pub named : IsNamed attributes channel
  pub snapshots : AllByRecursion (IsSnapshot attributes) trace
  pub sums : HasSums channel trace
