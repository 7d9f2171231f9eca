use Rattle.std.proofs.Common.{◌≡◌, Some, arith}
use Rattle.flow_filter.specs.Filters.{plain_block}
use Rattle.flow_filter.specs.Texts.{address_item}
use Rattle.flow_filter.proofs.Places.{places_covered, whole_block}
use Rattle.flow_filter.proofs.items.read_addresses.Goals as goal
use Rattle.flow_filter.proofs.items.read_addresses.Goals.{then-contains+in_ok-block, else-contains+in_ok-addr}

pub returns : goal.returns
returns c = λ address.
    let block = c.if-contains.block in
    let read : Some (plain_block block) ≡ address_item c.args.text.now = elim c.if-contains.branch [
      | then-contains+in_ok-block w ↦ grind arith
      | else-contains+in_ok-addr w ↦
          let address = w.in_ok-addr.addr in
          let one = w.block_of-block.result in
          grind (
            arith,
            whole_block address.version one.version address.value one.value one.len w.width.result
                w.block_of-block.ensures.version w.block_of-block.ensures.len w.width.ensures w.block_of-block.ensures.first,
          )
    ] in
    rw (← read)
    (λ i. Some (λ label row. places_covered block c.mapped_number.result c.mapped_number-2.result (c.low.result.version, c.low.result.value)
    (c.high.result.version, c.high.result.value) c.low.ensures.version c.low.ensures.value c.high.ensures.version c.high.ensures.last
    c.mapped_number.ensures c.mapped_number-2.ensures (row.version, address row) i))
