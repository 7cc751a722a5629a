mod AsBox
mod AsSharedBox
mod CodeLemmas
mod SharedLemmas
mod TextLemmas
