use Rattle.std.proofs.Common.{◌≡◌, ◌∙◌, List, [], Option, Some, None, ap, map, refl}
use Rattle.std.specs.Prelude.{option_map, unwrap_or}
use Rattle.std.specs.Borrow.{Bor}
use Rattle.std.proofs.lemmas.Result.{IfOk-weaker}
use Rattle.clap.proofs.WalkLemmas.{raw_values-rows}
use Rattle.clap.specs.Words.{Text, found_of}
use Rattle.flow_many.proofs.words.files_in.Goals as goal

-- the texts of a slice that may be missing
texts_of : (o : Option (Bor (List (Bor Text)))) (other : Bor (List (Bor Text))) → other.now ≡ []
    → map (λ (name : Bor Text). name.now) (unwrap_or o other).now ≡ unwrap_or (option_map (λ s. map (λ (v : Bor Text). v.now) s.now) o) []
texts_of None other none = ap (map (λ (name : Bor Text). name.now)) none
texts_of (Some s) other none = refl

pub returns : goal.returns
returns c =
    IfOk-weaker c.copied.result _ _
    (λ names are. are ∙ ap (λ (s : Bor (List (Bor Text))). map (λ (name : Bor Text). name.now) s.now) c.unwrap_or.ensures
    ∙ texts_of c.get_strs.result _ refl
    ∙ ap (λ (o : Option (List Text)). unwrap_or o []) (c.get_strs.ensures ∙ raw_values-rows (found_of c.args.entries.now) _)) c.copied.ensures
