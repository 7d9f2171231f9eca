-- Equal addresses, spans, mappings and entries.
use Rattle.std.proofs.Common.{◌≡◌, ◌-◌, ◌<◌, ◌≤◌, ◌%◌, ◌^◌}
use Rattle.std.proofs.Props.{props}
use mathlib.Core.HLevel.{is_prop→PathP}
use Rattle.prefix_keys.specs.Block.{width_of}
use Rattle.prefix_keys.specs.declared.addr.Addr.{Addr}
use Rattle.prefix_keys.specs.declared.span.Span.{Span}
use Rattle.pmap_model.specs.declared.statement.Statement.{Statement}
use Rattle.pmap_model.specs.declared.entry.Entry.{Entry}

-- addresses, spans and statements are equal if their parts are
pub addr-same : (a b : Addr) → a.version ≡ b.version → a.value ≡ b.value → a ≡ b
addr-same a b version value =
    λ i. record {
      version = version i;
      value = value i;
      in_range = is_prop→PathP (λ i. value i < 2 ^ width_of (version i)) (λ i. hlevel props) a.in_range b.in_range i;
    }

pub span-same : (s t : Span) → s.low ≡ t.low → s.high ≡ t.high → s ≡ t
span-same s t low high =
    λ i. record {
      low = low i;
      high = high i;
      one_version = is_prop→PathP (λ i. (low i).version ≡ (high i).version) (λ i. hlevel props) s.one_version t.one_version i;
      ordered = is_prop→PathP (λ i. (low i).value ≤ (high i).value) (λ i. hlevel props) s.ordered t.ordered i;
    }

pub statement-same : (s t : Statement) → s.span.low ≡ t.span.low → s.span.high ≡ t.span.high → s.label ≡ t.label → s ≡ t
statement-same s t low high label = λ i. record { span = span-same s.span t.span low high i; label = label i }

pub entry-same : (d e : Entry) → d.block.version ≡ e.block.version → d.block.value ≡ e.block.value → d.block.len ≡ e.block.len → d.label ≡ e.label → d ≡ e
entry-same d e version value len label =
    λ i. record {
      block = record {
        version = version i;
        value = value i;
        len = len i;
        len_in_range = is_prop→PathP (λ i. len i ≤ width_of (version i)) (λ i. hlevel props) d.block.len_in_range e.block.len_in_range i;
        in_range = is_prop→PathP (λ i. value i < 2 ^ width_of (version i)) (λ i. hlevel props) d.block.in_range e.block.in_range i;
        no_host_bit = is_prop→PathP (λ i. value i % 2 ^ (width_of (version i) - len i) ≡ 0) (λ i. hlevel props) d.block.no_host_bit e.block.no_host_bit i;
      };
      label = label i;
    }
