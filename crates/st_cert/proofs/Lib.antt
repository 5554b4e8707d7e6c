mod CertificateLemmas
-- For the crates above.
-- the laws of certificates, among them that each operation has one verdict
pub mod LawLemmas
