-- Maps of maps, and a map of maps for each kind.
use Rattle.std.proofs.Common.{◌≡◌, ◌==◌, ◌&&◌, ◌∙◌, ℕ, ◌<◌, Bool, true, false, cond, ltb, eqb, [], Option, Some, None, Result, Ok, Err, refl, sym, ap, arith}
use Rattle.std.specs.Prelude.{OnErr, option_and_then, unwrap_or}
use Rattle.std.specs.declared.cmp.Ordering.TheVariants.{Less, Equal, Greater}
use Rattle.std.specs.Ordering.{nat_cmp, is_eq}
use Rattle.std.specs.BTreeMap.{BTreeMap, get, is_at}
use Rattle.std.specs.Map.{lookup}
use Rattle.std.specs.Option.{option_or}
use Rattle.std.proofs.lemmas.Bool.{ltb-true, ne_eqb, eqb-true}
use Rattle.ipfix_templates.specs.Template.{Flow, Kind, Options, TemplateView, same_kind}
use Rattle.ipfix_templates.specs.InForce.{InForce, WithdrawAll, after_event, changed_at}
use Rattle.ipfix_templates.specs.Table.{is_parted}

same_test : (x y : ℕ) → is_eq (nat_cmp x y) ≡ eqb x y
same_test x y =
    elim (ltb x y) as (λ b. ltb x y ≡ b → is_eq (cond b Less (cond (eqb x y) Equal Greater)) ≡ eqb x y) [
      | true ↦ λ below. let lt : x < y = ltb-true x y below in sym (ne_eqb x y (λ same. omega arith))
      | false ↦ λ _. elim (eqb x y) as (λ b. is_eq (cond b Equal Greater) ≡ b) [ true ↦ refl | false ↦ refl ]
    ] refl

alike : {before after : InForce} → ((d i : ℕ) → before d i ≡ after d i) → before ≡ after
alike same = λ k d i. same d i k

-- the template at an ID of a domain's map, if there is a map
abbrev pub found : Option (BTreeMap ℕ TemplateView) → ℕ → Option TemplateView
found o id = option_and_then (λ templates. get nat_cmp templates id) o

-- these templates without those of a domain
abbrev pub emptied : InForce → ℕ → InForce
emptied before domain d i = cond (domain == d) None (before d i)

abbrev all : (ℕ → Option (BTreeMap ℕ TemplateView)) → InForce
all domains d i = found (domains d) i

-- a map for one domain, or none, in place of the old one
module _ (old new : ℕ → Option (BTreeMap ℕ TemplateView)) (domain : ℕ) (m : Option (BTreeMap ℕ TemplateView))
    (outer : (d : ℕ) → new d ≡ cond (is_at (nat_cmp domain) d) m (old d)) where
  -- each template there is changed in the same way
  pub replaced : (change : ℕ → Option TemplateView → Option TemplateView) → ((i : ℕ) → found m i ≡ change i (found (old domain) i))
      → (d i : ℕ) → found (new d) i ≡ cond (eqb domain d) (change i (found (old d) i)) (found (old d) i)
  replaced change is d i =
      ap (λ o. found o i) (outer d)
      ∙ rw (same_test domain d) (elim (eqb domain d) as (λ b. eqb domain d ≡ b → found (cond b m (old d)) i ≡ cond b (change i (found (old d) i)) (found (old d) i)) [
        | true ↦ λ here. is i ∙ ap (λ q. change i (found (old q) i)) (eqb-true domain d here)
        | false ↦ λ _. refl
      ] refl)

  pub changed : (id : ℕ) (value : Option TemplateView) → ((i : ℕ) → found m i ≡ cond (is_at (nat_cmp id) i) value (found (old domain) i))
      → all new ≡ changed_at (all old) domain id value
  changed id value is = alike (λ d i. rw (replaced (λ i. cond (is_at (nat_cmp id) i) value) is d i, same_test id i) (one (eqb domain d) (eqb id i) value (found (old d) i)))
    where
      one : (here there : Bool) (v o : Option TemplateView) → cond here (cond there v o) o ≡ cond (here && there) v o
      one true there v o = refl
      one false there v o = refl

  pub kept : ((i : ℕ) → found m i ≡ found (old domain) i) → all new ≡ all old
  kept is = alike (λ d i. rw (replaced (λ i o. o) is d i) (elim (eqb domain d) as (λ b. cond b (found (old d) i) (found (old d) i) ≡ found (old d) i) [ true ↦ refl | false ↦ refl ]))

  pub dropped : m ≡ None → all new ≡ emptied (all old) domain
  dropped none = alike (λ d i. replaced (λ i o. None) (λ i. ap (λ o. found o i) none) d i)

-- a domain's map, or an empty one
pub or_empty : (m empty : BTreeMap ℕ TemplateView) (e o : Option (BTreeMap ℕ TemplateView)) → m ≡ unwrap_or e empty → e ≡ o → empty.entries ≡ []
    → (i : ℕ) → get nat_cmp m i ≡ found o i
or_empty m empty e o is there none i = rw (is, there) (by o)
  where
    by : (o : Option (BTreeMap ℕ TemplateView)) → get nat_cmp (unwrap_or o empty) i ≡ found o i
    by None = ap (lookup (is_at (nat_cmp i))) none
    by (Some m) = refl

-- ---- the parts of the two kinds

abbrev pub both : InForce → InForce → InForce
both f o d i = option_or (f d i) (o d i)

abbrev pub Parted : InForce → InForce → Type 0
Parted f o = (d i : ℕ) → is_parted (f d i) (o d i) ≡ true

put_one : (s : Bool) (v w f o : Option TemplateView) → is_parted v w ≡ true → is_parted f o ≡ true
    → (option_or (cond s v f) (cond s w o) ≡ cond s (option_or v w) (option_or f o)) × (is_parted (cond s v f) (cond s w o) ≡ true)
put_one true v w f o new old = (refl, new)
put_one false v w f o new old = (refl, old)

here : {before after : InForce} → before ≡ after → (d i : ℕ) → before d i ≡ after d i
here same d i = ap (λ (table : InForce). table d i) same

-- one template is put into the part of its kind, or none
pub put : (f f' o o' : InForce) (domain id : ℕ) (v w : Option TemplateView) → f' ≡ changed_at f domain id v → o' ≡ changed_at o domain id w
    → (is_parted v w ≡ true) → Parted f o → (both f' o' ≡ changed_at (both f o) domain id (option_or v w)) × Parted f' o'
put f f' o o' domain id v w first second new old = (alike (λ d i. (one d i).0), λ d i. (one d i).1)
  where
    one : (d i : ℕ) → (both f' o' d i ≡ changed_at (both f o) domain id (option_or v w) d i) × (is_parted (f' d i) (o' d i) ≡ true)
    one d i = rw (here first d i, here second d i) (put_one (domain == d && id == i) v w (f d i) (o d i) new (old d i))

abbrev without : Kind → Bool → Option TemplateView → Option TemplateView
without kind here there = option_and_then (λ t. cond (here && same_kind kind t.kind) None (Some t)) there

all_left : (there : Option TemplateView) → there ≡ option_and_then (λ t. Some t) there
all_left None = refl
all_left (Some t) = refl

flow_is : (kind : Kind) → same_kind kind Flow ≡ true → kind ≡ Flow
flow_is Flow p = refl
flow_is Options p = absurd (cc)

options_is : (kind : Kind) → same_kind kind Options ≡ true → kind ≡ Options
options_is Flow p = absurd (cc)
options_is Options p = refl

-- either part is emptied
drops : (b : Bool) (f o : Option TemplateView) → is_parted f o ≡ true
    → (option_or (cond b None f) o ≡ without Flow b (option_or f o)) × (option_or f (cond b None o) ≡ without Options b (option_or f o))
drops false f o p = (all_left (option_or f o), all_left (option_or f o))
drops true None None p = (refl, refl)
drops true None (Some u) p = rw (options_is u.kind p) (refl, refl)
drops true (Some t) None p = rw (flow_is t.kind p) (refl, refl)
drops true (Some t) (Some u) p = absurd (cc)

module _ (f o new : InForce) (domain : ℕ) (p : Parted f o) where
  pub flow_dropped : new ≡ emptied f domain → both new o ≡ after_event domain (both f o) (WithdrawAll Flow)
  flow_dropped first = alike (λ d i. rw (here first d i) (drops (domain == d) (f d i) (o d i) (p d i)).0)

  pub options_dropped : new ≡ emptied o domain → both f new ≡ after_event domain (both f o) (WithdrawAll Options)
  options_dropped second = alike (λ d i. rw (here second d i) (drops (domain == d) (f d i) (o d i) (p d i)).1)

pub on_err : {A E : Type 0} (P : Type 0) (r : Result A E) → P → OnErr r P
on_err P (Ok x) p = tt
on_err P (Err e) p = p
