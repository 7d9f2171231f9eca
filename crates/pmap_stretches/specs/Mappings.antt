use Rattle.std.specs.Prelude.{◌+◌, ◌-◌, ◌^◌}
use Rattle.std.proofs.Common.{refl}
use Rattle.prefix_keys.specs.Block.{width_of}
use Rattle.prefix_keys.proofs.Quotients.{last-above, last-fits}
use Rattle.pmap_model.specs.declared.entry.Entry.{Entry}
use Rattle.pmap_model.specs.declared.statement.Statement.{Statement}

-- an entry of a prefix list as a mapping of its block's addresses
abbrev pub statement_of : Entry → Statement
statement_of e = record {
  span = record {
    low = record { version = e.block.version; value = e.block.value; in_range = e.block.in_range };
    high = record {
      version = e.block.version;
      value = e.block.value + (2 ^ (width_of e.block.version - e.block.len) - 1);
      in_range = last-fits (width_of e.block.version) e.block.len e.block.value e.block.len_in_range e.block.in_range
          e.block.no_host_bit;
    };
    one_version = refl;
    ordered = last-above e.block.value (2 ^ (width_of e.block.version - e.block.len) - 1);
  };
  label = e.label;
}
