use Rattle.std.proofs.Common.{◌≡◌, ◌∙◌, ◌^◌, ◌<◌, ℕ, Ok, None, Option, Some, ap, inl, inr, length, refl, subst, sym, unwrap_or}
use Rattle.prefix_keys.specs.Block.{width_of}
use Rattle.prefix_keys.specs.declared.version.Version.{Version}
use Rattle.pmap_model.specs.ListModel.{IsEquivalent}
use Rattle.pmap_model.specs.MapModel.{Label}
use Rattle.pmap_text.specs.Reading.{unknown}
use Rattle.pmap_cert.specs.Acceptance.{IsAccepted}
use Rattle.pmap_cert.specs.CertificateText.{HasFormatText, certificate_text}
use Rattle.pmap_cert.specs.CertificateModel.{CertificateModel}
use Rattle.pmap_cert.specs.Compacting.{compact}
use Rattle.cert_check.specs.Checking.{first_fault}
use Rattle.pmap_cert.specs.FormatReading.{format_reading}
use Rattle.pmap_cert.specs.ListText.{list_text}
use Rattle.flowlabel.specs.Output.{minimal_text}
use Rattle.flowlabel.proofs.commands.laws.shrunk_list_is_least.Goals as goal

pub returns : goal.returns
returns c name texts m reads =
    let (l, k, pair, has_form) = c.map_text_has_a_minimal_pair.ensures texts.map m reads in
    let formed : HasFormatText k = c.compact_has_a_text.ensures.first k has_form in
    let read = c.text_of_format_is_read_or_has_a_fault.ensures.read in
    let faultless = c.no_fault_is_acceptance.ensures.no_fault in
    let accepted : IsAccepted m l k = c.minimal_pair_is_accepted.ensures.accepted m l k pair in
    let alike : IsEquivalent l m = c.acceptance_is_enough.ensures.equivalent m l k accepted in
    let printed_again = c.minimal_list_can_be_read_again.ensures.again texts.map m l k reads pair in (
      l,
      k,
      record {
        shortest = record {
          equivalent = alike;
          least = c.acceptance_is_enough.ensures.least m l k accepted;
          name = pair.list_name;
          entries = (c.minimal_list_can_be_read_again.ensures.form texts.map m l k reads pair).entries;
          order = (c.minimal_list_is_in_order.ensures m l k pair (c.map_text_has_its_labels.ensures texts.map m reads)).order;
        };
        accepted = faultless m l k accepted;
        compact_accepted = faultless m l (compact k) (c.compact_keeps_acceptance.ensures m l k formed.format accepted);
        prints_list = (
          list_text l,
          (rw reads (l, k, pair, refl)),
          (
            refl,
            λ few few_labels.
                let (can, kept) = printed_again few few_labels in
                let (again, reads_list, is) = c.printed_list_is_read_back.ensures.list l can in
                let (same, accepted') = kept again is in
                let (other, reads_map, is_map) = c.printed_list_is_read_back.ensures.map l can in
                record {
                  table = again.table;
                  reads = reads_list ∙ (λ i. Ok (record { version = is.version i; name = is.name i; prefixes = same i; table = again.table }));
                  again = other;
                  reads_map = reads_map;
                  equivalent = record {
                    version = sym is_map.version;
                    labels = λ a below.
                        let labelled = alike.labels a (subst (λ (v : Version). a < 2 ^ width_of v) (is_map.version ∙ alike.version) below) in
                        labelled ∙ ap Some (sym (is_map.labels a (subst (λ (v : Version). a < 2 ^ width_of v) is_map.version below)
                        ∙ ap (λ (o : Option Label). unwrap_or o unknown) labelled));
                  };
                },
          ),
        );
        prints = (certificate_text k, (rw reads (l, k, pair, refl)), (read (certificate_text k) k).1 (formed, refl));
        prints_compact = (
          certificate_text (compact k),
          (rw reads (l, k, pair, refl)),
          (read (certificate_text (compact k)) (compact k)).1 (c.compact_has_a_text.ensures.text k formed, refl),
        );
        checks = λ few few_labels printed either.
            let (can, kept) = printed_again few few_labels in
            let (again, reads_list, is) = c.printed_list_is_read_back.ensures.list l can in
            let (same, accepted') = kept again is in
            let (x, reads', accepts) : (x : CertificateModel) × (format_reading printed ≡ Ok x) × IsAccepted m again x = elim either [
              | inl plain ↦ (k, plain, accepted')
              | inr short ↦ (compact k, short, c.compact_keeps_acceptance.ensures m again k formed.format accepted')
            ] in
            let none : first_fault m again x ≡ None = faultless m again x accepts in
            rw (reads, reads_list, reads', none) (ap (λ (n : ℕ). Ok (minimal_text n)) (sym (ap length same)));
      },
    )
