-- The entries of a node and of those below it.
use Rattle.std.proofs.Common.{◌≡◌, ℕ, suc, ◌+◌, ◌-◌, ◌*◌, ◌<◌, ◌∙◌, Bool, true, false, List, [], ◌∷◌, ◌++◌, Option, Some, All, length, map, slice_get, refl, sym, ap, subst, arith}
use Rattle.std.specs.Option.{ForSome}
use Rattle.std.proofs.lemmas.Bool.{cond-true, cond-false}
use Rattle.std.proofs.lemmas.List.{append-nil, append_assoc, map-append}
use Rattle.std.proofs.lemmas.List.Elements.{All-push}
use Rattle.std.proofs.lemmas.Option.{none-some, same_Some}
use Rattle.prefix_keys.specs.Block.{first_of, width_of}
use Rattle.prefix_keys.specs.declared.block.Block.{Block}
use Rattle.prefix_keys.specs.declared.version.Version.{Version}
use Rattle.pmap_model.specs.Label.{IsLabelTable}
use Rattle.pmap_model.specs.ListModel.{Prefix}
use Rattle.pmap_model.specs.MapModel.{Label}
use Rattle.pmap_model.specs.MapText.{text_at, text_if_some}
use Rattle.pmap_model.specs.PrefixList.{prefix_of}
use Rattle.pmap_model.specs.declared.entry.Entry.{Entry}
use Rattle.pmap_model.specs.declared.label.LabelId.{LabelId}
use Rattle.pmap_model.proofs.Blocks.{first_of-whole}
use Rattle.pmap_cert.specs.CertificateText.{IsAscending}
use Rattle.pmap_cert.specs.CertificateModel.{ClaimOf, InnerNode, LeafNode, Tree}
use Rattle.pmap_cert.specs.Acceptance.{entries_of, handed_on, has_inherited, least_label, own_entry}
use Rattle.pmap_cert.specs.Node.{HasNumberForm, Node, tree_of}
use Rattle.label_trie.specs.TrieModel.{number_of}
use Rattle.label_trie.specs.Parts.{IsHalf}
use Rattle.pmap_minimise.specs.Listing.{AddsEntries, AddsPrefixes, IsEntryOf}
use Rattle.pmap_minimise.specs.Numbers.{IsOwn, IsOwnBy, keeps, numbers_of}
use Rattle.pmap_minimise.proofs.Joined.{half-room}
use Rattle.pmap_minimise.proofs.Texts.{keeps-texts, least-texts}

-- a block begins at its first address
block-first : (block : Block) → block.value ≡ first_of (width_of block.version) block.len (number_of block)
block-first block =
    sym (first_of-whole (width_of block.version) block.len block.value (width_of block.version - block.len) refl block.no_host_bit)

-- a node with the set s adds its own entry, if it has one, and passes on the label `id`
pub record IsHanded (table : List Label) (s : List Label) (block : Block) (inherited : Option LabelId) (old new : List Entry) (id : LabelId) : Type 0 where
  pub adds : AddsPrefixes table block.version (own_entry (width_of block.version) table s (text_if_some table inherited) block.len (number_of block)) old new
  pub label : handed_on table s (text_if_some table inherited) ≡ Some (text_at table id.0)
  pub known : id.0 < length table

module _ (table : List Label) (ok : IsLabelTable table) (ids : List LabelId) (block : Block) (inherited : Option LabelId) (old new : List Entry) (id : LabelId)
    (ascending : IsAscending (length table) 0 (numbers_of ids)) (known : ForSome inherited (λ i. i.0 < length table)) where
  abbrev s : List Label
  s = map (text_at table) (numbers_of ids)

  abbrev own_prefix : Prefix
  own_prefix = record { start = first_of (width_of block.version) block.len (number_of block); bits = block.len; label = least_label table s }

  by_test : (b : Bool) → keeps ids inherited ≡ b → IsOwnBy b ids block inherited old new id → (ids' : List LabelId) → ids ≡ ids' → IsHanded table s block inherited old new id
  by_test true e own ids' same =
      let test : has_inherited s (text_if_some table inherited) ≡ true = keeps-texts table ok ids inherited ascending known ∙ e in
      record {
        adds = record {
          entries = ap (λ (es : List Entry). map (prefix_of table) es) own.0 ∙ sym (append-nil (map (prefix_of table) old))
              ∙ ap (λ (ps : List Prefix). map (prefix_of table) old ++ ps) (sym (cond-true (has_inherited s (text_if_some table inherited)) [] (own_prefix ∷ []) test));
          fit = subst (All (IsEntryOf block.version (length table))) (sym own.0);
        };
        label = cond-true (has_inherited s (text_if_some table inherited)) (text_if_some table inherited) (Some (least_label table s)) test ∙ ap (text_if_some table) own.1;
        known = known id own.1;
      }
  by_test false e own [] same = absurd (none-some id (subst (λ (l : List LabelId). slice_get l 0 ≡ Some id) same own.1))
  by_test false e own (first ∷ rest) same =
      let test : has_inherited s (text_if_some table inherited) ≡ false = keeps-texts table ok ids inherited ascending known ∙ e in
      let is : first ≡ id = same_Some first id (subst (λ (l : List LabelId). slice_get l 0 ≡ Some id) same own.1) in
      let up : IsAscending (length table) 0 (first.0 ∷ numbers_of rest) = subst (λ (l : List LabelId). IsAscending (length table) 0 (numbers_of l)) same ascending in
      let least : least_label table s ≡ text_at table id.0 =
      ap (λ (l : List LabelId). least_label table (map (text_at table) (numbers_of l))) same ∙ least-texts table ok first.0 (numbers_of rest) up
      ∙ ap (λ (i : LabelId). text_at table i.0) is in
      let prefix : prefix_of table (record { block = block; label = id }) ≡ own_prefix =
      λ i. record { start = block-first block i; bits = block.len; label = sym least i } in
      let small : id.0 < length table = subst (λ (i : LabelId). i.0 < length table) is up.1 in
      record {
        adds = record {
          entries = ap (λ (es : List Entry). map (prefix_of table) es) own.0 ∙ map-append (prefix_of table) old (record { block = block; label = id } ∷ [])
              ∙ ap (λ (p : Prefix). map (prefix_of table) old ++ p ∷ []) prefix
              ∙ ap (λ (ps : List Prefix). map (prefix_of table) old ++ ps) (sym (cond-false (has_inherited s (text_if_some table inherited)) [] (own_prefix ∷ []) test));
          fit = λ all. subst (All (IsEntryOf block.version (length table))) (sym own.0)
              (All-push (IsEntryOf block.version (length table)) old (record { block = block; label = id }) all (record { version_is = refl; known = small }));
        };
        label = cond-false (has_inherited s (text_if_some table inherited)) (text_if_some table inherited) (Some (least_label table s)) test ∙ ap (λ (x : Label). Some x) least;
        known = small;
      }

  pub handed : (ns : List ℕ) → numbers_of ids ≡ ns → IsOwn ids block inherited old new id → IsHanded table (map (text_at table) ns) block inherited old new id
  handed ns is own =
      subst (λ (l : List ℕ). IsHanded table (map (text_at table) l) block inherited old new id) is (by_test (keeps ids inherited) refl own ids refl)

-- a label that is passed on is known
pub one-known : (count : ℕ) (id : LabelId) → id.0 < count → ForSome (Some id) (λ i. i.0 < count)
one-known count id known = λ x e. subst (λ (i : LabelId). i.0 < count) (same_Some id x e) known

pub leaf-adds : (x : LabelId) (block : Block) (inherited : Option LabelId) (old new : List Entry) (ids : List LabelId) (id : LabelId) → numbers_of ids ≡ x.0 ∷ []
    → IsOwn ids block inherited old new id → AddsEntries (LeafNode x.0) block inherited old new
leaf-adds x block inherited old new ids id is own = λ table ok known form.
    (handed table ok ids block inherited old new id (subst (λ (l : List ℕ). IsAscending (length table) 0 l) (sym is) (omega arith, form.0, tt)) known (x.0 ∷ []) is own).adds

-- the entries of a half depend only on these values
pub half-entries : (table : List Label) (t : Tree) (h h' : Option Label) (W W' n n' q q' : ℕ) → W' ≡ W → h' ≡ h → n' ≡ n → q' ≡ q
    → entries_of W' table t h' n' q' ≡ entries_of W table t h n q
half-entries table t h h' W W' n n' q q' e f g k =
    ap (λ (v : ℕ). entries_of v table t h' n' q') e ∙ ap (λ (o : Option Label). entries_of W table t o n' q') f
    ∙ ap (λ (v : ℕ). entries_of W table t h v q') g ∙ ap (λ (v : ℕ). entries_of W table t h n v) k

joined-entries : (old own lower upper new0 new1 new2 : List Prefix) → new0 ≡ old ++ own → new1 ≡ new0 ++ lower → new2 ≡ new1 ++ upper → new2 ≡ old ++ (own ++ (lower ++ upper))
joined-entries old own lower upper new0 new1 new2 e f g =
    g ∙ ap (λ (l : List Prefix). l ++ upper) f ∙ ap (λ (l : List Prefix). (l ++ lower) ++ upper) e
    ∙ append_assoc (old ++ own) lower upper ∙ append_assoc old own (lower ++ upper)

pub inner-adds : (claim : ClaimOf ℕ) (left right : Node) (block low high : Block) (inherited : Option LabelId) (old new0 new1 new2 : List Entry) (ids : List LabelId) (id : LabelId)
    → numbers_of ids ≡ claim.labels → IsOwn ids block inherited old new0 id → IsHalf 0 block low → IsHalf 1 block high
    → AddsEntries left low (Some id) new0 new1 → AddsEntries right high (Some id) new1 new2 → AddsEntries (InnerNode claim left right) block inherited old new2
inner-adds claim left right block low high inherited old new0 new1 new2 ids id is own low_half high_half lower upper = λ table ok known form.
    let room = half-room 0 block low low_half in
    let room' = half-room 1 block high high_half in
    let level : width_of low.version - low.len ≡ width_of high.version - high.len = omega arith in
    let inner = subst (HasNumberForm (length table) (InnerNode claim left right)) room form in
    let up = subst (λ (ns : List ℕ). IsAscending (length table) 0 ns) (sym is) inner.0.1 in
    let hand = handed table ok ids block inherited old new0 id up known claim.labels is own in
    let passed = handed_on table (map (text_at table) claim.labels) (text_if_some table inherited) in
    let next = one-known (length table) id hand.known in
    let below = lower table ok next (inner.0.2, inner.1.0) in
    let above = upper table ok next (subst (HasNumberForm (length table) right) level (inner.0.3, inner.1.1)) in
    record {
      entries =
          joined-entries _ _ _ _ _ _ _ hand.adds.entries
          (below.entries ∙ ap (λ (ps : List Prefix). map (prefix_of table) new0 ++ ps)
          (half-entries table (tree_of table left) passed (Some (text_at table id.0)) (width_of block.version) (width_of low.version) (suc block.len) low.len
          (2 * number_of block) (number_of low) (ap width_of low_half.version) (sym hand.label) (let e = low_half.len in omega arith) (let e = low_half.number in omega arith)))
          (above.entries ∙ ap (λ (ps : List Prefix). map (prefix_of table) new1 ++ ps)
          (half-entries table (tree_of table right) passed (Some (text_at table id.0)) (width_of block.version) (width_of high.version) (suc block.len) high.len
          (2 * number_of block + 1) (number_of high) (ap width_of high_half.version) (sym hand.label) (let e = high_half.len in omega arith) (let e = high_half.number in omega arith)));
      fit = λ all.
          let own_all = subst (λ (v : Version). All (IsEntryOf v (length table)) new0) (sym low_half.version) (hand.adds.fit all) in
          let low_all = subst (λ (v : Version). All (IsEntryOf v (length table)) new1) (low_half.version ∙ sym high_half.version) (below.fit own_all) in
          subst (λ (v : Version). All (IsEntryOf v (length table)) new2) high_half.version (above.fit low_all);
    }
