use Rattle.std.proofs.Common.{◌≡◌, List, [], ◌∷◌, map, refl}
use Rattle.std.specs.List.{fold}
use Rattle.clap.specs.Words.{App}
use Rattle.flow_files.specs.Definition.{app_for, with_leaves, with_sub}
use Rattle.flow_files.specs.declared.definition.Subcommand.{Subcommand}
use Rattle.flow_files.proofs.laws.subcommands_are_added.Goals as goal

one_by_one : (app : App) (subs : List Subcommand) → with_leaves app (map app_for subs) ≡ fold with_sub app subs
one_by_one app [] = refl
one_by_one app (sub ∷ subs) = one_by_one (with_sub app sub) subs

pub returns : goal.returns
returns c = one_by_one
