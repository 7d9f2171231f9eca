-- The IPFIX messages of flows.
use Rattle.std.specs.Prelude.{ℕ, ◌+◌, ◌==◌, ◌&&◌, ◌||◌, Bool, List, [], ◌∷◌, ◌++◌, length, nat_lt, if◌then◌else◌}
use Rattle.byteorder.specs.Endian.{big_bytes}
use Rattle.nfcapd_read.specs.declared.flow.Flow.{Flow}
use Rattle.nfcapd_read.specs.declared.encode.Rest.{Rest}
use Rattle.nfcapd_read.specs.declared.encode.TheConstants.{LIMIT, TEMPLATES}

-- a number in this many bytes, in network byte order
unfoldable pub wire : ℕ → ℕ → List ℕ
wire size number = big_bytes size number

-- the bytes of a data record after its addresses, by the templates
abbrev pub rest_bytes : Rest → List ℕ
rest_bytes rest =
    wire 2 rest.sport ++ wire 2 rest.dport ++ wire 1 rest.protocol ++ wire 1 rest.flags
    ++ wire 8 rest.packets ++ wire 8 rest.octets ++ wire 8 rest.first ++ wire 8 rest.last

-- ICMP has no source port and no flags
abbrev pub is_icmp : Flow → Bool
is_icmp flow = flow.protocol == 1 || flow.protocol == 58

-- the direction that is always there, and the other one, which has ports exchanged, the same times, and no flags
abbrev pub forward_rest : Flow → Rest
forward_rest flow = record {
  sport = if is_icmp flow then 0 else flow.sport;
  dport = flow.dport;
  protocol = flow.protocol;
  flags = if is_icmp flow then 0 else flow.flags;
  packets = flow.packets;
  octets = flow.octets;
  first = flow.first;
  last = flow.last;
}

abbrev pub back_rest : Flow → Rest
back_rest flow = record {
  sport = flow.dport;
  dport = if is_icmp flow then 0 else flow.sport;
  protocol = flow.protocol;
  flags = 0;
  packets = flow.packets_back;
  octets = flow.octets_back;
  first = flow.first;
  last = flow.last;
}

-- no packet and no byte went back, or in either direction
abbrev pub is_one_way : Flow → Bool
is_one_way flow = flow.packets_back == 0 && flow.octets_back == 0

-- an event without packets and bytes is no flow
abbrev pub is_no_flow : Flow → Bool
is_no_flow flow = flow.is_event && (flow.packets == 0 && (flow.octets == 0 && is_one_way flow))

-- the data records between two addresses
abbrev pub records_between : List ℕ → List ℕ → Flow → List ℕ
records_between src dst flow =
    if is_one_way flow then src ++ dst ++ rest_bytes (forward_rest flow)
    else (src ++ dst ++ rest_bytes (forward_rest flow)) ++ (dst ++ src ++ rest_bytes (back_rest flow))

-- the IPv4 data records of a flow, and the IPv6 ones; a flow with addresses of both versions counts as one of IPv4
abbrev pub records_v4 : Flow → List ℕ
records_v4 flow =
    if is_no_flow flow then [] else (if flow.has_v4
    then records_between (wire 4 flow.src_v4) (wire 4 flow.dst_v4) flow else [])

abbrev pub records_v6 : Flow → List ℕ
records_v6 flow =
    if is_no_flow flow then [] else (if flow.has_v4 then []
    else records_between (wire 8 flow.src_high ++ wire 8 flow.src_low)
    (wire 8 flow.dst_high ++ wire 8 flow.dst_low) flow)

-- the header of a message of domain 1, whose number and time are 0, and of a set of its IPv4 records, which have this
-- number of bytes
abbrev pub message_head : ℕ → ℕ → List ℕ
message_head four six =
    wire 2 10 ++ wire 2 (24 + four + six) ++ wire 8 0 ++ wire 4 1
    ++ wire 2 256 ++ wire 2 (4 + four)

-- the message of these IPv4 and IPv6 records
abbrev pub message : List ℕ → List ℕ → List ℕ
message four six =
    message_head (length four) (length six) ++ four ++ wire 2 257 ++ wire 2 (4 + length six) ++ six

-- the messages of flows, when the records of the message so far are these; a message is ended once its records have
-- more than 65,000 bytes
abbrev pub packed : List ℕ → List ℕ → List Flow → List ℕ
packed four six [] = message four six
packed four six (flow ∷ flows) =
    let four' = four ++ records_v4 flow in
    let six' = six ++ records_v6 flow in
    if nat_lt LIMIT (length four' + length six')
    then message four' six' ++ packed [] [] flows
    else packed four' six' flows

-- the IPFIX File of flows: a message of the templates, and the messages of the flows
abbrev pub file_of_flows : List Flow → List ℕ
file_of_flows flows = TEMPLATES ++ packed [] [] flows
