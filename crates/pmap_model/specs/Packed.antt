use Rattle.prefix_keys.specs.declared.version.Version.TheVariants.{V4}
pub use Rattle.pmap_model.specs.declared.packed.NarrowStatement.{NarrowStatement}
pub use Rattle.pmap_model.specs.declared.packed.WideStatement.{WideStatement}
pub use Rattle.pmap_model.specs.declared.packed.NarrowEntry.{NarrowEntry}
use Rattle.pmap_model.specs.declared.entry.Entry.{Entry}
use Rattle.pmap_model.specs.declared.statement.Statement.{Statement}
use Rattle.std.proofs.Common.{refl}

-- How mappings and entries are stored. This is private, and callers of the crate need not read it.

abbrev pub narrow_statement : NarrowStatement → Statement
narrow_statement n = record {
  span = record {
    low = record { version = V4; value = n.low; in_range = n.low_fits };
    high = record { version = V4; value = n.high; in_range = n.high_fits };
    one_version = refl;
    ordered = n.ordered;
  };
  label = n.label;
}

abbrev pub wide_statement : WideStatement → Statement
wide_statement w = record {
  span = record {
    low = record { version = w.version; value = w.low; in_range = w.low_fits };
    high = record { version = w.version; value = w.high; in_range = w.high_fits };
    one_version = refl;
    ordered = w.ordered;
  };
  label = w.label;
}

abbrev pub narrow_entry : NarrowEntry → Entry
narrow_entry n = record {
  block = record {
    version = V4;
    value = n.value;
    len = n.len;
    len_in_range = n.len_in_range;
    in_range = n.in_range;
    no_host_bit = n.no_host_bit;
  };
  label = n.label;
}
