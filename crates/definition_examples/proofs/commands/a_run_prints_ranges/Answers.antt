-- The ranges of the map of two halves, and of a list of one half.
use Rattle.std.proofs.Common.{◌≡◌, [], ◌∷◌, None, Ok, Some, codes, refl, arith}
use Rattle.std.proofs.lemmas.Bool.{lt-ltb}
use Rattle.prefix_keys.specs.Block.{block_number}
use Rattle.pmap_stretches.specs.Runs.{Run}
use Rattle.definition_examples.specs.Commands.{opened}
use Rattle.definition_examples.proofs.commands.a_run_prints_ranges.Goals as goal

abbrev low : Run
low = record { low = 0; high = 2147483647; label = Some (codes "A") }

abbrev high : Run
high = record { low = 2147483648; high = 4294967295; label = Some (codes "B") }

abbrev rest : Run
rest = record { low = 2147483648; high = 4294967295; label = None }

pub returns : goal.returns
unfolding opened
returns c = record {
  of_a_map = (
    Ok _,
    (
      _,
      record {
        runs = low ∷ high ∷ [];
        are = (
          refl,
          record { some = omega arith; each = λ a first last. grind (arith, first, last) },
          (λ less same. grind (arith, same)),
          (refl, record { some = omega arith; each = λ a first last. grind (arith, first, last) }, (λ less same. omega (arith, less)), refl),
        );
        is = refl;
      },
      refl,
    ),
    refl,
  );
  of_a_list = (
    Ok _,
    (
      _,
      record {
        runs = low ∷ rest ∷ [];
        are = (
          refl,
          record {
            some = omega arith;
            each = λ a first last. let half : block_number 32 1 a ≡ 0 = omega arith in rw (lt-ltb a 4294967296 (omega arith), half) refl;
          },
          (λ less same. cc),
          (
            refl,
            record {
              some = omega arith;
              each = λ a first last. let half : block_number 32 1 a ≡ 1 = omega arith in rw (lt-ltb a 4294967296 (omega arith), half) refl;
            },
            (λ less same. omega (arith, less)),
            refl,
          ),
        );
        is = refl;
      },
      refl,
    ),
    refl,
  );
}
