use Rattle.std.proofs.Common.{◌≡◌, ◌<◌, ◌∙◌, All, List, length, map, ap, arith, subst, sym}
use Rattle.std.proofs.lemmas.List.{length-map}
use Rattle.prefix_keys.specs.Block.{width_of}
use Rattle.pmap_model.specs.MapModel.{Label}
use Rattle.pmap_model.specs.MapText.{map_of}
use Rattle.pmap_model.specs.PrefixList.{list_of, prefix_of}
use Rattle.pmap_cert.specs.Certificate.{certificate_of}
use Rattle.pmap_cert.specs.Format.{format_number}
use Rattle.pmap_cert.specs.CertificateModel.{claim_of}
use Rattle.pmap_cert.specs.Node.{HasNumberForm, Node, first_node, tree_of}
use Rattle.prefix_keys.specs.declared.version.Version.{Version}
use Rattle.pmap_minimise.specs.Numbers.{IsSound}
use Rattle.pmap_minimise.proofs.Joined.{claim-cost, sound-opens}
use Rattle.pmap_minimise.proofs.Whole.{claimed-shortest, list_with, listed-form, listed-minimal, shortest-distinct}
use Rattle.pmap_minimise.proofs.minimal.minimise.Goals as goal

pub entries_of-requires : goal.entries_of-requires
entries_of-requires c =
    let sound = subst (λ (v : Version). IsSound c.in_ok-root.root (width_of v)) c.requires.version c.in_ok-root.ensures.sound in
    (c.in_ok-root.root, sound, sound-opens c.in_ok-root.root (width_of c.args.map.now.version) sound)

pub list_with-list-requires : goal.list_with-list-requires
list_with-list-requires c =
    let made = claimed-shortest c.args.map.now c.args.trie.now.version c.args.trie.now.leaves c.in_ok-root.root c.in_ok-entries.entries c.in_ok-root.ensures
    c.requires.version c.laws.ensures.table c.requires.settled c.requires.undivided c.in_ok-entries.ensures in
    record {
      versions = made.of.versions;
      known = subst (λ (t : List Label). All (λ e. e.label.0 < length t) c.in_ok-entries.entries) (sym c.in_ok-copy.ensures) made.of.known;
      distinct = shortest-distinct c.args.map.now c.in_ok-root.root c.in_ok-entries.entries made;
    }

pub new-certificate-requires : goal.new-certificate-requires
new-certificate-requires c =
    let m = c.args.map.now in
    let made = claimed-shortest m c.args.trie.now.version c.args.trie.now.leaves c.in_ok-root.root c.in_ok-entries.entries c.in_ok-root.ensures
    c.requires.version c.laws.ensures.table c.requires.settled c.requires.undivided c.in_ok-entries.ensures in
    subst (λ (t : List Label). HasNumberForm (length t) c.in_ok-root.root (width_of m.version)) (sym c.in_ok-labels.ensures) made.is.form

pub returns : goal.returns
returns c =
    let m = c.args.map.now in
    let items = c.in_ok-entries.entries in
    let made_list = c.list_with-list.result in
    let l = list_of made_list in
    let is : l ≡ list_with m items =
    c.list_with-list.ensures ∙ (λ i. record { version = m.version; name = c.in_ok-name.ensures i; prefixes = map (prefix_of (c.in_ok-copy.ensures i)) items; table = c.in_ok-copy.ensures i }) in
    let certificate = certificate_of c.new-certificate.result in
    let made = claimed-shortest m c.args.trie.now.version c.args.trie.now.leaves c.in_ok-root.root c.in_ok-entries.entries c.in_ok-root.ensures
    c.requires.version c.laws.ensures.table c.requires.settled c.requires.undivided c.in_ok-entries.ensures in
    let table = c.new-certificate.ensures.labels ∙ c.in_ok-labels.ensures in
    let same : certificate ≡ record { format = 1; version = m.version; table = m.labels; root = tree_of m.labels c.in_ok-root.root } =
    λ i. record { format = format_number (c.new-certificate.ensures.format i); version = c.new-certificate.ensures.version i; table = table i; root = tree_of (table i) (c.new-certificate.ensures.root i) } in
    let pair = listed-minimal m c.in_ok-root.root c.in_ok-entries.entries made l is certificate same in
    let count = c.minimal_pair_is_accepted.ensures.count (map_of m) l certificate pair in
    let entries : length l.prefixes ≡ length made_list.entries = length-map made_list.entries (prefix_of made_list.labels) in
    let cost = claim-cost c.new-certificate.result.labels c.new-certificate.result.root in
    let own : c.claim.result.cost ≡ (claim_of c.new-certificate.result.root).cost = c.claim.ensures.cost ∙ ap (λ (l : List Node). (claim_of (first_node l)).cost) c.root-top.ensures.value in
    record {
      minimal = pair;
      cost = omega (arith, cost, own, c.from-root_cost.ensures);
      equivalent = c.minimal_pair_is_accepted.ensures.equivalent (map_of m) l certificate pair;
      count = omega (arith, count, entries, cost, own, c.from-root_cost.ensures);
      least = c.minimal_pair_is_accepted.ensures.least (map_of m) l certificate pair;
      accepted = c.minimal_pair_is_accepted.ensures.accepted (map_of m) l certificate pair;
      order = listed-form m c.in_ok-root.root c.in_ok-entries.entries made l is;
    }
