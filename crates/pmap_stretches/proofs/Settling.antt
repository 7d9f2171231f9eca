-- Whether the stretches of statements settle a block.
use Rattle.std.proofs.Common.{◌≡◌, ℕ, suc, ◌+◌, ◌<◌, ◌≤◌, List, Option, Some, None, IsSome, Contains, length, option_map, refl, sym, ap, subst, arith}
use Rattle.std.proofs.lemmas.List.Elements.{All-contains}
use Rattle.std.proofs.lemmas.Option.{same_Some}
use Rattle.prefix_keys.specs.Block.{first_of, last_of, width_of}
use Rattle.pmap_model.specs.MapModel.{IsSettled, MapModel, last_such, meets}
use Rattle.pmap_model.specs.MapText.{map_of, mapping_of, text_at, mappings_of}
use Rattle.pmap_model.specs.declared.statement.Statement.{Statement}
use Rattle.pmap_model.specs.declared.label.LabelId.{LabelId}
use Rattle.pmap_model.specs.Settled.{IsMapOf}
use Rattle.pmap_stretches.specs.Windows.{divisions, AreHalvesOf, IsWindow, window_number}
use Rattle.pmap_stretches.specs.Stretches.{AreStretches, HasStretch, StretchesModel, first_at, label_at, label_seen, last_at}
use Rattle.pmap_model.specs.declared.map_text.MapText.{MapText}
use Rattle.pmap_stretches.specs.declared.stretches.window.Window.{Window}
use Rattle.pmap_stretches.proofs.BlockHalves.{has_halves}
use Rattle.pmap_model.proofs.Ends.{IsUnsettled, divided-most}
use Rattle.pmap_stretches.proofs.SeenBlocks.{IsWhole, ordered_of, stretch_split, stretch_whole}
use Rattle.pmap_stretches.proofs.Windows.{block_some, window_beyond}

-- The block is settled by the map with the text of the label, which is in the map's label table. Without a label, no
-- mapping of the map meets the block.
abbrev pub Settles : MapModel → Option LabelId → ℕ → ℕ → Type 0
Settles m None n q = last_such (meets (width_of m.version) n q) m.mappings ≡ None
Settles m (Some id) n q = (id.0 < length m.table) × IsSettled m n q (text_at m.table id.0)

-- a map text's map has its statements and its default
pub map_is : (text : MapText) → IsMapOf (width_of text.version) text.statements (Some text.default) (map_of text)
map_is text = record {
  width = refl;
  mappings = refl;
  known = text.numbers_known;
  fallback = λ id is. subst (λ (i : LabelId). (i.0 < length text.labels) × (text_at text.labels i.0 ≡ text_at text.labels text.default.0))
      (same_Some text.default id is) (text.default_known, refl);
}

-- the label that is seen at all addresses of a block settles it
settles_seen : (n q : ℕ) (m : MapModel) (W : ℕ) (ss : List Statement) (default : Option LabelId) (top : Option Statement) → IsMapOf W ss default m
    → ((s : Statement) → top ≡ Some s → Contains ss s)
    → IsWhole (width_of m.version) n q m.mappings (option_map (mapping_of m.table) top) → Settles m (label_seen default top) n q
settles_seen n q m W ss None None is listed whole = whole.is
settles_seen n q m W ss (Some id) None is listed whole =
    let known = is.fallback id refl in
    (known.0, rw whole.is (ap Some (sym known.1)))
settles_seen n q m W ss default (Some s) is listed whole =
    let known = All-contains (λ (r : Statement). r.label.0 < length m.table) ss s is.known (listed s refl) in
    let covers = whole.covers (mapping_of m.table s) refl in
    (known, rw (whole.is, covers))

-- a block within a stretch is settled with its label
pub stretch_settles : (W n q : ℕ) (ss : List Statement) (default : Option LabelId) (first last : ℕ) (label : Option LabelId) → HasStretch W ss default first last label
    → (m : MapModel) → IsMapOf W ss default m → first ≤ first_of W n q → last_of W n q ≤ last → Settles m label n q
stretch_settles W n q ss default first last label has m is from to =
    let some = block_some W n q in
    rw has.label_is (settles_seen n q m W ss default has.top is has.listed
    (stretch_whole m n q first last (option_map (mapping_of m.table) has.top) (λ s inside. ordered_of m.table ss s (rw is.mappings at inside))
    (has.stretch m is.width is.mappings) (rw is.width some) (rw is.width from) (rw is.width to)))

label_given : (default : Option LabelId) (top : Option Statement) → IsSome default → IsSome (label_seen default top)
label_given default None some = some
label_given default (Some s) some = refl

-- if there is a default, each stretch has a label
pub stretch_labelled : (W : ℕ) (ss : List Statement) (default : Option LabelId) (first last : ℕ) (label : Option LabelId) → HasStretch W ss default first last label
    → IsSome default → IsSome label
stretch_labelled W ss default first last label has some = rw has.label_is (label_given default has.top some)

module _ (s : StretchesModel) (w : Window) (is : IsWindow s w) (ss : List Statement) (default : Option LabelId) (are : AreStretches ss default s) where
  -- a window in one stretch is settled with its label
  pub window_settled : w.from ≡ w.to → (m : MapModel) → IsMapOf (width_of s.version) ss default m → Settles m (label_at s w.from) w.len (window_number s w)
  window_settled same m map =
      let block = is.block in
      let last : last_at s w.from ≡ last_at s w.to = ap (last_at s) same in
      stretch_settles (width_of s.version) w.len (window_number s w) ss default (first_at s w.from) (last_at s w.from) (label_at s w.from)
      (are.each w.from is.start.index) m map (omega (arith, block.first_is, is.start.from)) (omega (arith, block.last_is, is.end.to, last))

  module _ (other : w.from ≡ w.to → ⊥) where
    pub window_divided : w.len < width_of s.version
    window_divided =
        let beyond = window_beyond s are.every w is other in
        has_halves (width_of s.version) w.len (window_number s w) is.within (omega (arith, is.block.first_is, is.block.last_is, is.start.to, beyond))

    -- any other is not settled
    pub window_unsettled : IsUnsettled (width_of s.version) ss w.len (window_number s w)
    window_unsettled = λ table x.
        let m : MapModel = record { version = s.version; name = None; fallback = x; mappings = mappings_of table ss; table = table } in
        let first = is.block.first_is in
        let last = is.block.last_is in
        let beyond = window_beyond s are.every w is other in
        let fits = (are.each w.to is.end.index).within in
        let has = are.each w.from is.start.index in
        stretch_split m w.len (window_number s w) (first_at s w.from) (last_at s w.from) (option_map (mapping_of table) has.top) (has.stretch m refl refl)
        (omega (arith, first, is.start.from)) (omega (arith, first, is.start.to)) (omega (arith, last, beyond)) (omega (arith, last, is.end.to, fits))

    -- its halves are divided less often together
    pub window_most : (low high : Window) → AreHalvesOf s w low high → 1 + (divisions s low ss + divisions s high ss) ≤ divisions s w ss
    window_most low high halves =
        let next : w.len + 1 ≡ suc w.len = omega arith in
        rw (halves.low_number, halves.high_number, halves.low_len, halves.high_len, next)
        (divided-most (width_of s.version) ss w.len (window_number s w) window_divided window_unsettled)
