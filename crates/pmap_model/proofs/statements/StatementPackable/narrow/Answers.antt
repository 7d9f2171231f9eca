use Rattle.std.proofs.Common.{refl, sym, ◌∙◌}
use Rattle.pmap_model.proofs.PackedStatements.{addr-same, statement-same}
use Rattle.pmap_model.proofs.statements.StatementPackable.narrow.Goals as goal

pub returns : goal.returns
returns c =
    statement-same _ _ (addr-same _ _ (sym c.requires) refl)
    (addr-same _ _ (sym (sym c.args.self.span.one_version ∙ c.requires)) refl) refl
