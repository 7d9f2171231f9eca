-- The root of a certificate.
use Rattle.std.specs.Option.{option_or}
use Rattle.std.proofs.Common.{◌&&◌, Bool, false, ◌≡◌, ◌∙◌, ℕ, ◌+◌, ◌-◌, ◌^◌, List, Option, None, Some, Result, Err, Ok, cond, true, length, nat_lt, sym, ap, arith}
use Rattle.std.proofs.Math.Nat.{zero-div}
use Rattle.std.proofs.lemmas.Bool.{and_from}
use Rattle.std.proofs.lemmas.List.{length-map}
use Rattle.prefix_keys.specs.Block.{width_of}
use Rattle.prefix_keys.specs.declared.version.Version.{Version}
use Rattle.pmap_model.specs.ListModel.{ListModel}
use Rattle.pmap_model.specs.MapModel.{Label, MapModel}
use Rattle.pmap_model.specs.MapText.{map_of}
use Rattle.pmap_model.specs.PrefixList.{list_of, prefix_of}
use Rattle.pmap_model.specs.Steps.{◌>>=◌}
use Rattle.pmap_model.specs.declared.label.LabelId.{LabelId}
use Rattle.pmap_cert.specs.CertificateModel.{CertificateModel, claim_of}
use Rattle.pmap_cert.specs.FormatReading.{Place, ended_by, fault_at, is_ended}
use Rattle.pmap_cert.specs.Inner.{node_due_at, reading_from}
use Rattle.pmap_cert.specs.declared.fault.CertFault.{CertFault}
use Rattle.pmap_cert.specs.declared.fault.CertFaultKind.TheVariants.{NodesLeft}
use Rattle.pmap_cert.specs.declared.format.Format.{Format}
use Rattle.cert_check.specs.Checking.{fault_of_number, first_fault, is_same_version, node_fault, BoundNotMet, CheckFault, VersionDiffers}
use Rattle.cert_check.specs.Inner.{AreOf, AreSources, IsPassed, IsRootChecked, Origin, Read, Sources, Walk, certificate_with, fault_of_node, number_at, reading_at}
use Rattle.cert_check.proofs.Accepted.{same_version-from}

-- the first fault of the nodes, or otherwise that of too many entries
abbrev pub bound : Option CheckFault → Bool → Option CheckFault
bound nodes many = option_or nodes (cond many (Some (fault_of_number 0 BoundNotMet)) None)

-- the first fault of the certificate with a root that was checked for the whole address space
pub root-checked : (s : Sources) (place : Place) (number cost : ℕ) (old : List LabelId) (before : Option CheckFault) (last new : Walk) → number ≡ 1 → before ≡ None
    → IsPassed s (reading_at s 0 place) (fault_of_node 0 (number_at s 0 0)) number old before last cost
    → new.nodes ≡ last.nodes → new.fault ≡ bound last.fault (nat_lt (cost + 1) s.count)
    → IsRootChecked s place new
root-checked s place number cost old before last new one none passed nodes_same noted = record {
  tree = passed.tree;
  read = passed.read ∙ ap (λ (l : Place). Ok (passed.tree, l)) (sym nodes_same);
  fault = λ o of.
      let m = map_of o.map in
      let l = list_of o.list in
      let nodes = node_fault m l.prefixes passed.tree 1 0 0 in
      let versions = and_from _ _ (same_version-from l.version m.version (of.list_version ∙ sym of.map_version)) (same_version-from s.version m.version (sym of.map_version)) in
      noted
      ∙ (λ i. bound (((passed.fault 1 (sym one)).0 o of ∙ ap (λ f. option_or f (fault_of_node 0 (number_at s 0 0) o passed.tree 1)) none) i)
      (nat_lt ((sym passed.claim i).cost + 1) ((of.count ∙ sym (length-map o.list.entries (prefix_of o.list.labels))) i)))
      ∙ (λ i. bound (node_fault m l.prefixes passed.tree 1 0 (zero-div (2 ^ (width_of s.version - 0)) i)) (nat_lt ((claim_of passed.tree).cost + 1) (length l.prefixes)))
      ∙ sym (ap (λ c. cond c (bound nodes (nat_lt ((claim_of passed.tree).cost + 1) (length l.prefixes))) (Some (fault_of_number 0 VersionDiffers))) versions);
}

-- a text whose root was read is read as the certificate with that root if nothing follows
module _ (s : Sources) (are : AreSources s) (format : Format) (table : List Label) (version : Version) (format_is : s.limits.format ≡ format) (table_is : s.limits.labels.now ≡ table)
    (version_is : version ≡ s.version) (place : Place) where
  abbrev then_ended : Read → Result CertificateModel CertFault
  then_ended r = r >>= (λ root. ended_by (certificate_with format version table root.0) root.1)

  at-root : node_due_at format (width_of version) table (width_of version) place ≡ reading_at s 0 place
  at-root =
      let width : width_of version ≡ s.limits.width = ap width_of version_is ∙ sym are.width in
      let room : width_of version ≡ s.limits.width - 0 = omega (arith, width) in
      λ i. node_due_at (sym format_is i) (width i) (sym table_is i) (room i) place

  from-root : reading_from format version table place ≡ then_ended (reading_at s 0 place)
  from-root = ap then_ended at-root

  -- its first fault is that of the walk
  module _ (new : Walk) (root : IsRootChecked s place new) where
    pub read-as : is_ended new.nodes.pieces ≡ true → reading_from format version table place ≡ Ok (certificate_with format version table root.tree)
    read-as ended =
        from-root ∙ ap then_ended root.read
        ∙ ap (λ (b : Bool). cond b (Ok (certificate_with format version table root.tree)) (Err (fault_at new.nodes NodesLeft))) ended

    pub fault-as : (o : Origin) → AreOf o s → first_fault (map_of o.map) (list_of o.list) (certificate_with format version table root.tree) ≡ new.fault
    fault-as o of =
        (λ i. first_fault (map_of o.map) (list_of o.list) (certificate_with (sym format_is i) (version_is i) (sym table_is i) root.tree)) ∙ sym (root.fault o of)

-- a certificate that is read after a head has the head's version
read-version : (format : Format) (version : Version) (table : List Label) (k : CertificateModel) (r : Read)
    → (r >>= (λ root. ended_by (certificate_with format version table root.0) root.1)) ≡ Ok k → k.version ≡ version
read-version format version table k (Err f) e = absurd (let h : Err f ≡ Ok k = e in cc)
read-version format version table k (Ok root) e = by (is_ended (root.1).pieces) e
  where
    by : (b : Bool) → cond b (Ok (certificate_with format version table root.0)) (Err (fault_at root.1 NodesLeft)) ≡ Ok k → k.version ≡ version
    by true e = let h : Ok (certificate_with format version table root.0) ≡ Ok k = e in cc
    by false e = absurd (let h : Err (fault_at root.1 NodesLeft) ≡ Ok k = e in cc)

-- versions that differ are the first fault
pub version-fault : (m : MapModel) (l : ListModel) (format : Format) (version : Version) (table : List Label) (place : Place) (k : CertificateModel)
    → reading_from format version table place ≡ Ok k → (is_same_version l.version m.version && is_same_version version m.version) ≡ false
    → first_fault m l k ≡ Some (fault_of_number 0 VersionDiffers)
version-fault m l format version table place k read differ =
    let same = read-version format version table k (node_due_at format (width_of version) table (width_of version) place) read in
    ap (λ (b : Bool). cond b (bound (node_fault m l.prefixes k.root 1 0 0) (nat_lt ((claim_of k.root).cost + 1) (length l.prefixes))) (Some (fault_of_number 0 VersionDiffers)))
    (ap (λ (v : Version). is_same_version l.version m.version && is_same_version v m.version) same ∙ differ)
