use Rattle.std.specs.Prelude.{◌≡◌, ◌<◌, ◌≤◌, ℕ, Bool, List, ◌==◌}
pub use Rattle.ipfix_templates.specs.declared.kind.Kind.{Kind}
pub use Rattle.ipfix_templates.specs.declared.kind.Kind.TheVariants.{Flow, Options}
pub use Rattle.ipfix_templates.specs.declared.field.Field.{Field}

-- the set ID of the sets that hold its templates (RFC 7011 section 3.3.2)
abbrev pub set_id : Kind → ℕ
set_id Flow = 2
set_id Options = 3

-- whether two kinds are the same
abbrev pub same_kind : Kind → Kind → Bool
same_kind kind other = set_id kind == set_id other

-- a template as contracts see it
pub record TemplateView : Type 0 where
  pub id : ℕ
  pub kind : Kind
  pub scope_count : ℕ
  pub fields : List Field

-- Below: only contracts of parts and proofs use these; no promise of the program rests on them.

-- a template can have this ID, which isn't reserved, and these numbers of scope fields and fields (RFC 7011 section
-- 3.4)
abbrev pub IsTemplate : ℕ → Kind → ℕ → ℕ → Type 0
IsTemplate id Flow scopes count = (256 ≤ id) × (scopes ≡ 0) × (0 < count)
IsTemplate id Options scopes count = (256 ≤ id) × (0 < scopes) × (scopes ≤ count)
