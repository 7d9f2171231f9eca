-- The statements and entries that the code finds to affect a block are those of the specification.
use Rattle.std.proofs.Common.{◌≡◌, ℕ, ◌+◌, ◌<◌, Bool, true, false, cond, not, ◌&&◌, ◌||◌, List, [], ◌∷◌, ◌++◌, filter, get_or, length, nat_le, nat_lt, take, refl, sym, ap, ◌∙◌, arith}
use Rattle.std.specs.List.{list_any}
use Rattle.std.proofs.lemmas.Bool.Decides.{nat_tests}
use Rattle.std.proofs.lemmas.List.{append-nil}
use Rattle.std.proofs.lemmas.List.Elements.{filter_agree, filter_more}
use Rattle.std.proofs.lemmas.List.Folds.{list_any-append, list_any_more}
use Rattle.prefix_keys.specs.declared.block.Block.{Block}
use Rattle.pmap_model.specs.declared.entry.Entry.{Entry}
use Rattle.pmap_model.specs.declared.statement.Statement.{Statement}
use Rattle.cert_check.specs.Carried.{carried_to, covers_whole, entries_carried_to, from_last, is_inside, meets_block, spans_block}

-- the list from the last element that passes on, if one more follows
from_last-push : {X : Type 0} (p : X → Bool) (xs : List X) (x : X) → from_last p (xs ++ x ∷ []) ≡ cond (p x) [] (from_last p xs) ++ x ∷ []
from_last-push {X} p [] x = by (p x)
  where
    by : (b : Bool) → x ∷ [] ≡ cond b [] [] ++ x ∷ []
    by true = refl
    by false = refl
from_last-push {X} p (y ∷ xs) x =
    ap (λ b. cond b (from_last p (xs ++ x ∷ [])) (y ∷ (xs ++ x ∷ []))) (list_any-append p xs (x ∷ [])) ∙ by (list_any p xs) (p x) (from_last-push p xs x)
  where
    by : (any b : Bool) → from_last p (xs ++ x ∷ []) ≡ cond b [] (from_last p xs) ++ x ∷ []
        → cond (any || (b || false)) (from_last p (xs ++ x ∷ [])) (y ∷ (xs ++ x ∷ [])) ≡ cond b [] (cond any (from_last p xs) (y ∷ xs)) ++ x ∷ []
    by true b rest = rest
    by false true rest = rest
    by false false rest = refl

-- the statements carried to a block, by those of all statements but the last
pub carried-more : (b : Block) (ss : List Statement) (i : ℕ) (s : Statement) → i < length ss → s ≡ get_or ss i s
    → carried_to b (take (i + 1) ss) ≡ cond (meets_block b s) (cond (spans_block b s) [] (carried_to b (take i ss)) ++ s ∷ []) (carried_to b (take i ss))
carried-more b ss i s less is =
    ap (from_last (spans_block b)) (filter_more (meets_block b) ss i s less ∙ ap (λ d. old ++ cond (meets_block b d) (d ∷ []) []) (sym is)) ∙ by (meets_block b s)
  where
    old : List Statement
    old = filter (meets_block b) (take i ss)

    by : (m : Bool) → from_last (spans_block b) (old ++ cond m (s ∷ []) [])
        ≡ cond m (cond (spans_block b s) [] (from_last (spans_block b) old) ++ s ∷ []) (from_last (spans_block b) old)
    by true = from_last-push (spans_block b) old s
    by false = ap (from_last (spans_block b)) (append-nil old)

-- some of the first i + 1 entries covers the block and is longer than k, by that of the first i
pub longer-more : (b : Block) (es : List Entry) (i k g : ℕ) (e : Entry) → i < length es → e ≡ get_or es i e
    → nat_lt k g ≡ list_any (λ r. covers_whole b r && nat_lt k r.block.len) (take i es)
    → nat_lt k (cond (covers_whole b e && nat_lt g e.block.len) e.block.len g) ≡ list_any (λ r. covers_whole b r && nat_lt k r.block.len) (take (i + 1) es)
longer-more b es i k g e less is so_far =
    by (covers_whole b e) ∙ ap (λ a. a || (covers_whole b e && nat_lt k e.block.len)) so_far
    ∙ ap (λ (d : Entry). list_any (λ r. covers_whole b r && nat_lt k r.block.len) (take i es) || (covers_whole b d && nat_lt k d.block.len)) is
    ∙ sym (list_any_more (λ r. covers_whole b r && nat_lt k r.block.len) es i e less)
  where
    by : (c : Bool) → nat_lt k (cond (c && nat_lt g e.block.len) e.block.len g) ≡ (nat_lt k g || (c && nat_lt k e.block.len))
    by true = grind (arith, nat_tests)
    by false = grind (arith, nat_tests)

-- the entries that the code finds for a block are those carried to it
pub entries-carried : (b : Block) (es : List Entry) (g : ℕ) → ((k : ℕ) → nat_lt k g ≡ list_any (λ r. covers_whole b r && nat_lt k r.block.len) es)
    → filter (λ e. (covers_whole b e && nat_le g e.block.len) || is_inside b e) es ≡ entries_carried_to b es
entries-carried b es g longest =
    filter_agree _ _ (λ e. ap (λ l. (covers_whole b e && l) || is_inside b e) (not-less e.block.len ∙ ap not (longest e.block.len))) es
  where
    not-less : (k : ℕ) → nat_le g k ≡ not (nat_lt k g)
    not-less k = grind (arith, nat_tests)
