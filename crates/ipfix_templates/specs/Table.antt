-- How a table keeps templates. This is private, and callers need not read it.
use Rattle.std.specs.Prelude.{ℕ, Bool, true, false, Option, Some, None, option_and_then, ◌≡◌}
use Rattle.std.specs.BTreeMap.{BTreeMap, get}
use Rattle.std.specs.Ordering.{nat_cmp}
use Rattle.ipfix_templates.specs.Template.{Flow, Options, TemplateView, same_kind}

-- the templates of a kind, by their domains and IDs
abbrev pub Domains : Type 0
Domains = BTreeMap ℕ (BTreeMap ℕ TemplateView)

-- the template at a domain and an ID
abbrev pub stored : Domains → ℕ → ℕ → Option TemplateView
stored domains domain id = option_and_then (λ templates. get nat_cmp templates id) (get nat_cmp domains domain)

-- whether a template is in the part of its kind, and not in both parts
abbrev pub is_parted : Option TemplateView → Option TemplateView → Bool
is_parted None None = true
is_parted (Some t) None = same_kind t.kind Flow
is_parted None (Some t) = same_kind t.kind Options
is_parted (Some t) (Some u) = false

abbrev pub AreParted : Domains → Domains → Type 0
AreParted flow options = (d i : ℕ) → is_parted (stored flow d i) (stored options d i) ≡ true
