use Rattle.std.proofs.Common.{◌≡◌, ◌∙◌, ◌+◌, ◌-◌, ◌++◌, List, ℕ, ap, arith, length, length-take, slice_range, take}
use Rattle.std.specs.Prelude.{nat_lt}
use Rattle.std.specs.Vec.{with_items}
use Rattle.std.proofs.lemmas.List.{with_items_is}
use Rattle.nfcapd_read.proofs.Puts.{four_long, four_more}
use Rattle.nfcapd_read.specs.Encode.{records_v4}
use Rattle.nfcapd_read.proofs.pending.Pending.add.Goals as goal

pub returns-clause-four : goal.returns-clause-four
returns-clause-four c =
    ap (λ (l : List ℕ). slice_range l 20 c.put_records_v4-self.result)
    (with_items_is c.args.self.now.out c.put_records_v4-self.new.out (omega arith))
    ∙ four_more c.args.self.now.at c.put_records_v4-self.result c.args.self.now.out.items c.put_records_v4-self.new.out (records_v4 c.args.flow.now)
    (c.put_records_v4-self.ensures.put ∙ ap (λ (l : List ℕ). take c.args.self.now.at l ++ records_v4 c.args.flow.now) c.as_mut_slice.ensures.value)
    (omega arith) (omega (arith, ap length c.as_mut_slice.ensures.value))

pub returns-clause-full : goal.returns-clause-full
returns-clause-full c =
    let out = with_items c.args.self.now.out c.put_records_v4-self.new.out in
    let six = with_items c.args.self.now.six c.put_records_v6-self.new.out in
    let long : length out.items ≡ 65536 = ap length (with_items_is c.args.self.now.out c.put_records_v4-self.new.out (omega arith)) ∙ omega arith in
    let long' : length six.items ≡ 65536 = ap length (with_items_is c.args.self.now.six c.put_records_v6-self.new.out (omega arith)) ∙ omega arith in
    let same : c.put_records_v4-self.result - 20 + c.put_records_v6-self.result
    ≡ length (slice_range out.items 20 c.put_records_v4-self.result) + length (take c.put_records_v6-self.result six.items) =
    omega (arith, four_long c.put_records_v4-self.result out.items (omega (arith, long)), length-take c.put_records_v6-self.result six.items, long') in
    ap (nat_lt 65000) same
