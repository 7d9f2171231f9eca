-- `next_message` makes three calls. The first reads the message. `self` is lent to it for a lifetime that ends with the
-- call. The second lends what the message is decoded with: `self` is lent to it for good, and ends with the progress that
-- was lent, at its last value. The third decodes the message, and says which value that is.
use Rattle.std.proofs.Common.{◌≡◌, ◌∙◌, ℕ, List, [], ◌∷◌, ◌++◌, refl, subst, MutBor}
use Rattle.std.proofs.raw_atomic.Walks.{proved, leaves}
use Rattle.std.specs.Prelude.{⊤, Option, Result}
use seplogic.Ra.Ura.{Ura}
use base.Fraction.{full_share}
use base.Logic.{ent, emp, id⊢, apply∗, sep, wand}
use base.Fml.{Lft, ftrue, flft, fdead, fres}
use base.Share as Share
use mir.Syntax.{named, a_type, dcons, dnil, Dict}
use Rattle.flow_io.specs.declared.devices.Input.{Ghosts}
use mir.MapTy.{inst_fn}
use contract.BorrowLft.{◌⊑◌, ⊑_trans, meet_⊑_left, meet_⊑_right}
use contract.Lifetimes.{Lfts, Shares}
use contract.Monad.{fact, fact_i}
use contract.Running.{tables}
use types.Logic.{Logic, sem}
use types.Kit.{‵, raw, ◌⊛◌, some, later, ◌$◌, ◌∵◌, !, qed, by, done, move, drop, use0, use1, use2, use3, split, join, fsplit, fjoin, fpack, pick, await}
use types.Run.{enter, addr, stop, no_more, and_then, returns}
use types.Tokens.{lft_new, lft_end, lft-common}
use base.FractionLaws.{common}
use types.ByLocal.{alloc_all, pass_all, free_all, look_at, get, through, sets, lands_as}
use denote.Exit.{no}
use denote.Follow.{follows_by, such_by, followed}
use denote.Laws.{shows}
use denote.Lend.{lends_again, comes_back, LentAgain}
use denote.Param.{param, bounded}
use denote.RattleType.{RattleType}
use denote.Ref.{MutRef, NamedLft, mut_vals, mut_Tells}
use denote.Signature.{plain, mut_ref_to, named_lft}
use denote.Steps.{nothing, peeks, heard}
use denote.Triple.Call.{calls_at}
use denote.Triple.Clauses.{lasts, Ended, Lasts}
use denote.Triple.Spec.{triple_of}
use denote.Triple.Table.{framed}
use denote.Triple.Walked.{Stays, stay_dropped, Goes-spent_ref}
use Rattle.ipfix_read.specs.Lending.{LeavesMessages, LendsProgressOf, row}
use Rattle.flow_io.specs.Devices.{InputView}
use Rattle.ipfix_read.specs.Message.{MessageView}
use Rattle.ipfix_read.specs.Messages.{AnswersCall, Decodes, GathersCall, HoldsMessage, ProgressView}
use Rattle.ipfix_read.specs.declared.fault.ReadFault.{ReadFault}
use Rattle.ipfix_read.specs.contracts.fault.ReadFault as fault
use Rattle.ipfix_read.proofs.fault.ReadFault.TheLaws as fault-laws
use Rattle.ipfix_read.specs.contracts.message.Message as message
use Rattle.ipfix_read.proofs.message.Message.TheLaws as message-laws
use Rattle.std.specs.contracts.option.Option as option
use Rattle.std.specs.contracts.result.Result as result
use Rattle.std.proofs.option.Option.TheLaws as option-laws
use Rattle.std.proofs.result.Result.TheLaws as result-laws
use denote.Param.Laws.{Laws, of_field}
use denote.Param.Shared.{copy_shared}
use denote.Struct.Field.{u64-field}
use denote.Struct.Laws.{u64-laws, u64-copy}
use Rattle.ipfix_read.proofs.Joining.{answers_call}
use Rattle.ipfix_read.specs.declared.progress.Decoder.{Decoder}
use Rattle.ipfix_read.specs.declared.progress.Kept.{Kept}
use Rattle.ipfix_read.specs.declared.progress.Messages.{Messages}
use Rattle.ipfix_read.specs.contracts.progress.Decoder as decoder
use Rattle.ipfix_read.proofs.progress.Decoder.TheLaws as decoder-laws
use Rattle.ipfix_read.specs.contracts.progress.Kept as kept
use Rattle.ipfix_read.specs.contracts.progress.Messages as messages
use Rattle.ipfix_read.specs.contracts.progress.Progress as progress
use Rattle.ipfix_read.specs.contracts.progress.Messages+R+Kept.next_message as f
use Rattle.ipfix_read.proofs.progress.Messages+R+Kept.next_message.Statement.{statement}
use Rattle.ipfix_read.proofs.progress.Messages+R+Kept.next_message.Code as code
use Rattle.ipfix_read.specs.contracts.progress.Messages+R+Kept.gather as g
use Rattle.ipfix_read.proofs.progress.Messages+R+Kept.gather.Met as g-met
use Rattle.ipfix_read.specs.contracts.progress.Messages+R+Kept.decoder as h
use Rattle.ipfix_read.proofs.progress.Messages+R+Kept.decoder.Met as h-met
use Rattle.ipfix_read.specs.contracts.progress.Decoder.decode as d
use Rattle.ipfix_read.proofs.progress.Decoder.decode.Met as d-met

found-laws : Laws (result.the_row (option.the_row (u64-field).row) fault.the_row)
found-laws = result-laws.the_row_laws _ _ (option-laws.the_row_laws _ (of_field u64-field u64-laws refl (copy_shared u64-field u64-copy))) fault-laws.the_row_laws

made-laws : (a : NamedLft) → Laws (result.the_row (option.the_row (message.the_row a)) fault.the_row)
made-laws a = result-laws.the_row_laws _ _ (option-laws.the_row_laws _ (message-laws.the_row_laws a)) fault-laws.the_row_laws

-- the clause about the last value of `self`, from that value
rests : {M : Type 1} {𝓤 : Ura M} (𝓛 : Logic 𝓤) (R : RattleType) (self : MutBor (Messages R.Denot Kept)) (input : R.Denot → InputView) (result : Result (Option MessageView) ReadFault) (last : Messages R.Denot Kept)
    → (last.reader.ghost_name ≡ self.now.reader.ghost_name) × AnswersCall input self.now.kept.progress self.now.reader.now result last.kept.progress last.reader.now
    → ent 𝓤 (𝓛.A.res self.ghost_name ((row (param 0 R)).coded.code last)) (sem 𝓛 (LeavesMessages (param 0 R) self input result))
unfolding such_by follows_by
rests 𝓛 R self input result last said = qed 𝓛 (‵ (fres self.ghost_name ((row (param 0 R)).coded.code last)) ∷ []) ∵
    fpack ! ((t : (Messages R.Denot Kept → Messages R.Denot Kept) × Messages R.Denot Kept) × ((w : Messages R.Denot Kept) → ⊤)
    × ((t.1.reader.ghost_name ≡ self.now.reader.ghost_name) × AnswersCall input self.now.kept.progress self.now.reader.now result t.1.kept.progress t.1.reader.now))
    (λ t. fres self.ghost_name ((row (param 0 R)).coded.code t.0.1)) (((λ w. last), last), (λ w. tt), said) $ done !

-- the type of `self`
abbrev Row : RattleType → Lfts 3 → RattleType
Row R κs = messages.the_row (named_lft 3 1 tt κs) (param 0 R) kept.the_row

module _ (R : RattleType) (R-Input : Ghosts R.Denot) (dict : Dict) where
  abbrev T : Ended
  T = f.ended R R-Input dict

  abbrev stayed : Stays T.signature.params T.kept
  stayed = (stay_dropped (mut_ref_to (0 ∷ []) tt (plain (Row R))) no, tt)

pub next_message_spec : {M : Type 1} → statement M
next_message_spec 𝓤 𝓛 𝓜 𝓡 wired R laws R-Input dict bound =
    let inst = bounded (a_type ∷ []) (R, tt) (dcons dict dnil) in let hs = stayed R R-Input dict in
    let c = f.clauses R R-Input dict 𝓛 𝓜.mem 𝓡.returns in let calls = framed 𝓤 𝓛.H 𝓜 (tables 𝓤 𝓛.H 𝓜 𝓡 𝓡.env) in
    proved 𝓛 (T R R-Input dict) hs c 𝓜 𝓡 (Goes-spent_ref 𝓛 3 (0 ∷ []) tt (plain (Row R)), tt)
    (f.Key.name inst) (inst_fn inst code.function) (code.unfolded 𝓤 𝓛.H 𝓜 𝓡 wired (R, tt) dict)
    (λ κs. (mut_vals, tt)) (λ κs. (mut_Tells (named 0) κs.0 (Row R κs), tt)) (λ κs qs bounds a _ are.
    let κ = κs.0 in let q = qs.0 in let r = a.0 in let b = r.ref_ptr.0 in let o = r.ref_ptr.1 in let vs = mut_vals r in let S = Row R κs in
    let Ref = λ (κ' : Lft) (x : MutBor S.Denot). (MutRef (named 0) κ' S).own_val x vs in
    qed 𝓛 (((‵ (flft κ q) ⊛ (‵ (flft κs.1.0 qs.1.0) ⊛ (‵ (flft κs.1.1.0 qs.1.1.0) ⊛ ‵ ftrue))) ⊛ (‵ (Ref κ r) ⊛ ‵ ftrue)) ∷ (raw (fact 𝓤 (κs.1.1.0 ⊑ R.lives)) ⊛ ‵ ftrue) ∷ []) ∵
    split ! $ split ! $ move ! (2 ∷ []) $ split ! $ move ! (1 ∷ []) $ drop ! $ move ! (3 ∷ []) $ split ! $ heard ! _ (λ lives. drop ! $
    -- [the reference; the token of its lifetime; the other tokens]
    enter ! _ _ _ _ _ $ alloc_all ! (λ l. pass_all ! refl ((tt, tt), tt) $
    sets ! (addr ! (through ! refl (stop !))) refl (tt, tt) $
    lft_new ! tt (λ α. let κ₁ = (α ∷ []) ++ κ in
    move ! (2 ∷ []) $ use1 𝓛 (‵ (flft κ (Share.left q)) ⊛ ‵ (flft κ (Share.right q))) (𝓛.lfts.lft_split κ q) $ split ! $
    move ! (2 ∷ 1 ∷ []) $
    let both = common full_share (Share.right q) in
    use2 𝓛 (‵ (flft κ₁ both.0) ⊛ raw (wand 𝓤 (𝓛.A.lft κ₁ both.0) (sep 𝓤 (𝓛.A.lft (α ∷ []) full_share) (𝓛.A.lft κ (Share.right q))))) (lft-common 𝓛 (α ∷ []) κ full_share (Share.right q)) $ split ! $
    move ! (3 ∷ 2 ∷ []) $ use2 𝓛 (later (some (λ (δ : ℕ). ‵ (Ref κ₁ (record r { ghost_name = δ })) ⊛ ‵ (LentAgain S κ κ₁ (Share.left q) r.ghost_name b o δ r.now))))
    (lends_again 𝓛 S (named 0) κ κ₁ (Share.left q) r.ghost_name b o (named 0) r.now) $ await ! tt $ pick ! (λ δ. split ! $
    -- [the loan; what the lender keeps; the token of κ₁; the way back to the two tokens that gave it; the other tokens]
    let G = triple_of 𝓛 (g.signature R) (g.spec R R-Input dict 𝓛 𝓜.mem 𝓡.returns) in
    let κs₁ : Lfts 3 = (κ₁, κs.1) in let qs₁ : Shares 3 = (both.0, qs.1) in
    let within = ⊑_trans κ₁ κ κs.1.0 (meet_⊑_right (α ∷ []) κ) bounds.0 in let within' = ⊑_trans κ₁ κ κs.1.1.0 (meet_⊑_right (α ∷ []) κ) bounds.1.0 in
    let z : G.Ghost = ((κs₁, qs₁, (within, (within', bounds.1.1)), (record r { ghost_name = δ }, tt), (vs, tt)), tt) in
    nothing ! $ move ! (1 ∷ 0 ∷ []) $ join ! $ move ! (2 ∷ 4 ∷ []) $ join ! $ join ! $
    nothing ! $ use0 𝓛 (raw (fact 𝓤 (κs.1.1.0 ⊑ R.lives))) (fact_i 𝓤 _ (emp 𝓤) lives) $ join ! $ move ! (1 ∷ 0 ∷ []) $ use2 𝓛 (raw (G.pre z)) (id⊢ 𝓤 _) $
    calls_at ! calls G (g-met.met 𝓤 𝓛 𝓜 𝓡 (code.calls-ipfix_read::progress::Messages+R+Kept::gather 𝓡.env wired) R laws R-Input dict bound) z
    (and_then ! (get ! refl) (no_more !)) (λ v.
    let Found = result.the_row (option.the_row (u64-field).row) fault.the_row in
    use1 𝓛 (later (some (λ (n : Result (Option ℕ) ReadFault). ((‵ (flft κ₁ both.0) ⊛ (‵ (flft κs.1.0 qs.1.0) ⊛ (‵ (flft κs.1.1.0 qs.1.1.0) ⊛ ‵ ftrue))) ⊛ ‵ (Found.own_val n (v ∷ []))) ⊛
    some (λ (ws : (Messages R.Denot Kept) × Unit {0}). ‵ (lasts (g.ended R R-Input dict) κs₁ z.0.3 ws)
    ⊛ (raw (fact 𝓤 (ws.0.reader.ghost_name ≡ r.now.reader.ghost_name)) ⊛ (raw (fact 𝓤 (ws.0.kept.progress ≡ r.now.kept.progress))
    ⊛ (raw (fact 𝓤 (GathersCall R-Input.input r.now.kept.progress r.now.reader.now ws.0.kept.buffer.bytes.items n ws.0.reader.now))
    ⊛ raw (fact 𝓤 (HoldsMessage ws.0.kept.progress.count ws.0.kept.buffer.bytes.items n))))))))) (id⊢ 𝓤 _) $
    await ! tt $ pick ! (λ n. split ! $ move ! (1 ∷ []) $ pick ! (λ ws. let m = ws.0 in split ! $
    fsplit ! $ fsplit ! $ move ! (1 ∷ []) $ drop ! $ move ! (1 ∷ []) $ drop ! $
    move ! (1 ∷ []) $ split ! $ heard ! _ (λ same. split ! $ heard ! _ (λ begins. split ! $ heard ! _ (λ call. heard ! _ (λ whole.
    -- [the loan's last value; the tokens and what was found; what the lender keeps; the way back]
    move ! (1 ∷ []) $ split ! $ split ! $ move ! (0 ∷ 5 ∷ []) $
    use2 𝓛 (‵ (flft (α ∷ []) full_share) ⊛ ‵ (flft κ (Share.right q))) (apply∗ 𝓤 (𝓛.A.lft κ₁ both.0) _) $ split ! $ lft_end ! tt $
    use1 𝓛 (‵ (fdead κ₁)) (𝓛.lfts.dead-incl κ₁ (α ∷ []) (meet_⊑_left (α ∷ []) κ)) $ move ! (0 ∷ 5 ∷ 4 ∷ []) $
    use3 𝓛 (later (‵ (Ref κ (record r { now = m })) ⊛ ‵ (flft κ (Share.left q)))) (comes_back 𝓛 S (named 0) κ κ₁ (Share.left q) r.ghost_name b o δ r.now m) $ await ! tt $ split ! $
    move ! (1 ∷ 2 ∷ []) $ use2 𝓛 (‵ (flft κ q)) (𝓛.lfts.lft_join κ q) $
    -- [the token; the reference; the other tokens; what was found]
    move ! (3 ∷ []) $ peeks ! Found _ (shows 𝓛 Found) n (v ∷ []) (λ is.
    lands_as ! refl refl ((found-laws.lawful 𝓛).typed n (v ∷ []) is).0 $
    -- [what was found; the token; the reference; the other tokens]
    let H = triple_of 𝓛 (h.signature R) (h.spec R R-Input dict 𝓛 𝓜.mem 𝓡.returns) in
    let z₂ : H.Ghost = ((κs, qs, bounds, (record r { now = m }, tt), (vs, tt)), tt) in
    sets ! (addr ! (through ! refl (stop !))) refl (tt, tt) $
    move ! (2 ∷ []) $ nothing ! $ move ! (1 ∷ 0 ∷ []) $ join ! $ move ! (2 ∷ 3 ∷ []) $ join ! $ join ! $
    nothing ! $ use0 𝓛 (raw (fact 𝓤 (κs.1.1.0 ⊑ R.lives))) (fact_i 𝓤 _ (emp 𝓤) lives) $ join ! $ move ! (1 ∷ 0 ∷ []) $ use2 𝓛 (raw (H.pre z₂)) (id⊢ 𝓤 _) $
    calls_at ! calls H (h-met.met 𝓤 𝓛 𝓜 𝓡 (code.calls-ipfix_read::progress::Messages+R+Kept::decoder 𝓡.env wired) R laws R-Input dict bound) z₂
    (and_then ! (get ! refl) (no_more !)) (λ u.
    let Lent = decoder.the_row (named_lft 3 0 tt κs) (named_lft 3 0 tt κs) in
    use1 𝓛 (later (some (λ (e : Decoder). ((‵ (flft κ q) ⊛ (‵ (flft κs.1.0 qs.1.0) ⊛ (‵ (flft κs.1.1.0 qs.1.1.0) ⊛ ‵ ftrue))) ⊛ ‵ (Lent.own_val e (u ∷ []))) ⊛
    some (λ (ws : Unit {0} × Unit {0}). ‵ (lasts (h.ended R R-Input dict) κs z₂.0.3 ws) ⊛ (‵ (LendsProgressOf (param 0 R) (record r { now = m }) e)
    ⊛ (raw (fact 𝓤 (e.progress.now ≡ m.kept.progress)) ⊛ raw (fact 𝓤 (e.bytes.now ≡ m.kept.buffer.bytes.items)))))))) (id⊢ 𝓤 _) $
    await ! tt $ pick ! (λ e. split ! $ move ! (1 ∷ []) $ pick ! (λ ws. split ! $ drop ! $ split ! $ move ! (1 ∷ []) $
    split ! $ heard ! _ (λ lent. heard ! _ (λ bytes.
    -- [the tie; the tokens and what is lent; what was found]
    move ! (1 ∷ []) $ split ! $ split ! $ move ! (2 ∷ []) $ peeks ! Lent _ (shows 𝓛 Lent) e (u ∷ []) (λ is.
    lands_as ! refl refl (((decoder-laws.the_row_laws (named_lft 3 0 tt κs) (named_lft 3 0 tt κs)).lawful 𝓛).typed e (u ∷ []) is).0 $
    -- [what is lent; the token; the other tokens; the tie; what was found]
    move ! (1 ∷ []) $ use1 𝓛 (‵ (flft κ (Share.left q)) ⊛ ‵ (flft κ (Share.right q))) (𝓛.lfts.lft_split κ q) $ split ! $
    let held : HoldsMessage e.progress.now.count e.bytes.now n = rw (lent, bytes) whole in
    let D = triple_of 𝓛 d.signature (d.spec 𝓛 𝓜.mem 𝓡.returns) in
    let z₃ : D.Ghost = (((κ, (κ, tt)), (Share.left q, (Share.right q, tt)), tt, (e, (n, tt)), (u ∷ [], (v ∷ [], tt))), tt) in
    nothing ! $ move ! (2 ∷ 0 ∷ []) $ join ! $ move ! (1 ∷ 0 ∷ []) $ join ! $ move ! (4 ∷ []) $ nothing ! $ move ! (1 ∷ 0 ∷ []) $ join ! $ move ! (2 ∷ 0 ∷ []) $ join ! $
    move ! (1 ∷ 0 ∷ []) $ join ! $ use0 𝓛 (raw (fact 𝓤 (HoldsMessage e.progress.now.count e.bytes.now n))) (fact_i 𝓤 _ (emp 𝓤) held) $ move ! (1 ∷ 0 ∷ []) $ use2 𝓛 (raw (D.pre z₃)) (id⊢ 𝓤 _) $
    calls_at ! calls D (d-met.met 𝓤 𝓛 𝓜 𝓡 (code.calls-ipfix_read::progress::Decoder::decode 𝓡.env wired)) z₃
    (and_then ! (get ! refl) (and_then ! (get ! refl) (no_more !))) (λ w.
    let Made = result.the_row (option.the_row (message.the_row (named_lft 3 0 tt κs))) fault.the_row in
    use1 𝓛 (later (some (λ (x : Result (Option MessageView) ReadFault). ((‵ (flft κ (Share.left q)) ⊛ (‵ (flft κ (Share.right q)) ⊛ ‵ ftrue)) ⊛ ‵ (Made.own_val x (w ∷ []))) ⊛
    some (λ (xs : Lasts d.ended z₃.0.0 z₃.0.3). ‵ (lasts d.ended z₃.0.0 z₃.0.3 xs) ⊛ raw (fact 𝓤 (Decodes e.progress.now e.bytes.now n x xs.0.0)))))) (id⊢ 𝓤 _) $
    await ! tt $ pick ! (λ x. split ! $ move ! (1 ∷ []) $ pick ! (λ xs. split ! $
    fsplit ! $ fsplit ! $ fsplit ! $ move ! (1 ∷ []) $ drop ! $ move ! (1 ∷ []) $ drop ! $ move ! (1 ∷ []) $ drop ! $ move ! (1 ∷ []) $ heard ! _ (λ decodes.
    -- [the last value of what was lent; the tokens and the result; the other tokens; the tie]
    let last : Messages R.Denot Kept = record m { kept = record m.kept { progress = xs.0.0 } } in
    let decoded = subst (λ (p : ProgressView × List ℕ). Decodes p.0 p.1 n x xs.0.0) (λ i. ((lent ∙ begins) i, bytes i)) decodes in
    let answers = answers_call R-Input.input r.now.kept.progress r.now.reader.now m.kept.buffer.bytes.items n m.reader.now x xs.0.0 call decoded in
    move ! (3 ∷ 0 ∷ []) $ use2 𝓛 (‵ (fres r.ghost_name (S.coded.code last)))
    (followed 𝓛 (row (param 0 R)) progress.the_row (λ p. record m { kept = record m.kept { progress = p } }) r.ghost_name e.progress.ghost_name xs.0.0) $
    use1 𝓛 (‵ (LeavesMessages (param 0 R) r R-Input.input x)) (rests 𝓛 R r R-Input.input x last (same, answers)) $
    move ! (1 ∷ []) $ split ! $ move ! (1 ∷ []) $ peeks ! Made _ (shows 𝓛 Made) x (w ∷ []) (λ is.
    lands_as ! refl refl (((made-laws (named_lft 3 0 tt κs)).lawful 𝓛).typed x (w ∷ []) is).0 $ returns ! (look_at ! 0 refl) $ free_all ! refl $
    -- [the result; its tokens; the tie; the other tokens]
    move ! (1 ∷ []) $ split ! $ move ! (1 ∷ []) $ split ! $ move ! (2 ∷ 0 ∷ []) $ use2 𝓛 (‵ (flft κ q)) (𝓛.lfts.lft_join κ q) $ move ! (1 ∷ []) $ drop ! $
    move ! (0 ∷ 3 ∷ []) $ join ! $ move ! (2 ∷ []) $
    use0 𝓛 (raw (fact 𝓤 ((new : ProgressView) × (then : R.Denot) × AnswersCall R-Input.input r.now.kept.progress r.now.reader.now x new then))) (fact_i 𝓤 _ (emp 𝓤) (xs.0.0, m.reader.now, answers)) $
    move ! (1 ∷ 0 ∷ []) $ join ! $ nothing ! $ nothing ! $ fjoin ! $ move ! (2 ∷ 0 ∷ 3 ∷ 1 ∷ []) $
    by ! (leaves 𝓛 (T R R-Input dict) hs c ((κs, qs, bounds, a, (vs, tt)), tt) w x (tt, tt) (tt, tt))))))))))))))))))))))))))
